-- The paper's number and values for each case of a loss answer. The paper, "Refusals": any other value beside a refusal is 0; rule 7: the
-- first reading's two results are 0. Definitions and statements only.
use Rattle.loss_reading.specs.Losses.{losses_of}
use Rattle.std.specs.Prelude.{ℕ, ◌≡◌, not, [], ◌∷◌, eqb, ℤ, pos, Result, Ok, Err, Option, Some, None}
use Rattle.base_laws.specs.Tests.{choose}
use Rattle.loss_session.specs.declared.Readings.{Readings}
use Rattle.loss_session.specs.declared.LossSession.{LossSession}
use Rattle.loss_reading.specs.declared.LossRefusal.{LossRefusal}
use Rattle.loss_reading.specs.declared.Losses.{Losses}
use Rattle.loss_reading.specs.declared.LossRefusal.TheVariants.{NotWellFormed, Full}
use Rattle.loss_reading.specs.declared.LossTold.{LossTold}
use Rattle.loss_session.specs.Session.{near, far, well_formed, most_intervals}
use Rattle.loss_reading.specs.Reading.{loss_on}

abbrev pub refused : ℕ → LossTold
refused n = record { refusal = n; near = pos 0; far = pos 0 }

abbrev pub results : ℤ → ℤ → LossTold
results n f = record { refusal = 0; near = n; far = f }

unfoldable pub loss_told : Result (Option Losses) LossRefusal → LossTold
loss_told (Err NotWellFormed) = refused 2
loss_told (Err Full) = refused 5
loss_told (Ok None) = results (pos 0) (pos 0)
loss_told (Ok (Some l)) = results l.near l.far

-- what one more reading is answered, in the paper's numbers alone
unfoldable pub loss_numbers : LossSession → Readings → LossTold
loss_numbers s r =
    choose (
    (not (well_formed s), refused 2)
    ∷ (eqb s.kept 0, results (pos 0) (pos 0))
    ∷ (eqb s.intervals most_intervals, refused 5)
    ∷ [])
    (results (loss_on near s.last r) (loss_on far s.last r))

-- beside a refusal every other value is 0
pub record LossNumbers : Type 0 where
  pub zeros : (a : Result (Option Losses) LossRefusal) → (((loss_told a).refusal ≡ 0) → ⊥) → ((loss_told a).near ≡ pos 0) × ((loss_told a).far ≡ pos 0)
