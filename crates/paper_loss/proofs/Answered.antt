-- Up to 1,000,000,001 readings of a cleared session are all answered with two losses, whatever they are. Assumes nothing.
use Prim.Native.Nat.{ℕ, ◌+◌, ◌-◌, ◌≤◌, ◌<◌}
use mathlib.Core.Path.{◌≡◌}
use mathlib.Core.Bool.{true, false}
use mathlib.Core.List.{List, [], ◌∷◌, map}
use mathlib.Core.Logic.{⊎_elim}
use native.Mathlib.Omega.{arith}
use lib.Dec.{eqb}
use lib.IntN.{pos}
use lib.ListN.{length}
use borrow.Author.Tests.{eqb-true, eqb-false}
use Rattle.base_laws.proofs.Tests.{known}
use Rattle.loss_session.specs.declared.Readings.{Readings}
use Rattle.loss_session.specs.declared.LossSession.{LossSession}
use Rattle.loss_session.specs.Session.{near, far, cleared_session, WellFormed, most_intervals, most_readings}
use Rattle.loss_reading.specs.Reading.{loss_on, after_reading}
use Rattle.loss_session.proofs.Laws.{well, cleared_well}
use Rattle.loss_reading.proofs.Laws.{stays, reading-first, reading-measured}
use Rattle.loss_account.specs.Demand3.{answers}
use Rattle.paper_loss.specs.Runs.{Each}
use Rattle.paper_loss.specs.Demand3.{Measured, measured}
use Rattle.paper_loss.proofs.Step.{told_of}

-- room for m readings: an interval for each, and one reading more where none is kept
record Room (x : LossSession) (m : ℕ) : Type 0 where
  pub fine : WellFormed x
  pub fits : x.intervals + m ≤ most_intervals + (1 - x.kept)

answered-from : (rs : List Readings) (x : LossSession) → Room x (length rs) → Each Measured (map told_of (answers after_reading x rs))
unfolding answers Each
answered-from [] x h = tt
answered-from (r ∷ rs) x h = go (λ z k. answered-from rs z k)
  where
    go : ((z : LossSession) → Room z (length rs) → Each Measured (map told_of (answers after_reading z rs)))
        → Measured (told_of (after_reading x r).answer) × Each Measured (map told_of (answers after_reading (after_reading x r).session rs))
    go again =
        let v = (well x).1 h.fine in
        ⊎_elim
        (λ (t : eqb x.kept 0 ≡ true).
        let k = eqb-true x.kept 0 t in
        let e = reading-first x r v k in (
          rw e (measured (pos 0) (pos 0)),
          again (after_reading x r).session
              (record { fine = stays x r h.fine; fits = rw e (omega (arith, h.fits, k, (h.fine.nothing k).0)) }),
        ))
        (λ (t : eqb x.kept 0 ≡ false).
        let n = eqb-false x.kept 0 t in
        let few : x.intervals < most_intervals = omega (arith, h.fits, n) in
        let e = reading-measured x r v n (λ q. omega (arith, few, q)) in (
          rw e (measured (loss_on near x.last r) (loss_on far x.last r)),
          again (after_reading x r).session (record { fine = stays x r h.fine; fits = rw e (omega (arith, h.fits, n)) }),
        ))
        (known (eqb x.kept 0))

pub answered : (rs : List Readings) → length rs ≤ most_readings → Each Measured (map told_of (answers after_reading cleared_session rs))
answered rs few = answered-from rs cleared_session (record { fine = cleared_well; fits = omega (arith, few) })
