-- The statements of specs/Told.antt, and that the numbers of an answer are those that the paper gives. Assumes nothing.
use mathlib.Core.Path.{◌≡◌, refl}
use lib.IntN.{pos}
use mathlib.Core.Bool.{not}
use mathlib.Core.List.{[], ◌∷◌}
use lib.Dec.{eqb}
use Rattle.std.specs.Prelude.{Result, Ok, Err, Option, Some, None}
use Rattle.loss_reading.specs.Losses.{losses_of}
use Rattle.base_laws.specs.Tests.{choose}
use Rattle.base_laws.proofs.Tests.{choose-map}
use Rattle.loss_session.specs.declared.Readings.{Readings}
use Rattle.loss_session.specs.declared.LossSession.{LossSession}
use Rattle.loss_reading.specs.declared.LossRefusal.{LossRefusal}
use Rattle.loss_reading.specs.declared.Losses.{Losses}
use Rattle.loss_reading.specs.declared.LossRefusal.TheVariants.{NotWellFormed, Full}
use Rattle.loss_reading.specs.declared.Updated.{Updated}
use Rattle.loss_session.specs.Session.{well_formed, most_intervals}
use Rattle.loss_reading.specs.Reading.{unchanged, first_of, measured_of, after_reading}
use Rattle.loss_reading.specs.Told.{loss_told, loss_numbers, LossNumbers}

-- the two chains have the same tests, in the same order
pub told-numbers : (s : LossSession) (r : Readings) → loss_told (after_reading s r).answer ≡ loss_numbers s r
unfolding after_reading loss_numbers choose loss_told
told-numbers s r =
    choose-map (λ (u : Updated). loss_told u.answer)
    ((not (well_formed s), unchanged (Err NotWellFormed) s) ∷ (eqb s.kept 0, first_of s r) ∷ (eqb s.intervals most_intervals, unchanged (Err Full) s)
    ∷ [])
    (measured_of s r)

zeros : (a : Result (Option Losses) LossRefusal) → (((loss_told a).refusal ≡ 0) → ⊥) → ((loss_told a).near ≡ pos 0) × ((loss_told a).far ≡ pos 0)
unfolding loss_told
zeros (Err NotWellFormed) h = (refl, refl)
zeros (Err Full) h = (refl, refl)
zeros (Ok None) h = (refl, refl)
zeros (Ok (Some l)) h = absurd (h refl)

pub loss-numbers : LossNumbers
loss-numbers = record { zeros = zeros }
