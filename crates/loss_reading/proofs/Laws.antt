-- The four cases of one more reading as laws that others cite, and what they keep. Assumes nothing.
use Prim.Native.Nat.{◌+◌, ◌*◌, ◌≤◌, ◌<◌}
use mathlib.Core.Path.{◌≡◌, refl}
use mathlib.Core.Bool.{true, false}
use mathlib.Core.Logic.{⊎_elim}
use native.Mathlib.Omega.{arith}
use lib.Dec.{eqb}
use lib.IntN.{nat_abs, ◌+ℤ◌}
use borrow.Author.Tests.{eqb-true, eqb-false, eq-eqb, ne_eqb}
use Rattle.std.specs.Prelude.{Err}
use Rattle.base_laws.specs.Tests.{choose}
use Rattle.base_laws.proofs.Tests.{known, failed}
use Rattle.base_laws.proofs.Signed.{add-size}
use Rattle.loss_growth.proofs.Growing.{loss-size}
use Rattle.loss_session.specs.declared.Readings.{Readings}
use Rattle.loss_session.specs.declared.LossSession.{LossSession}
use Rattle.loss_session.specs.Session.{LossEnd, near, far, sent_of, received_of, total_of, WellFormed, well_formed, most_intervals}
use Rattle.loss_session.proofs.Laws.{well}
use Rattle.loss_reading.specs.declared.LossRefusal.TheVariants.{NotWellFormed, Full}
use Rattle.loss_reading.specs.Reading.{loss_on, unchanged, first_of, measured_of, after_reading}

-- ── one more reading, case by case ──

module _ (s : LossSession) (r : Readings) where
  pub reading-bad : well_formed s ≡ false → after_reading s r ≡ unchanged (Err NotWellFormed) s
  unfolding after_reading choose
  reading-bad w = rw w

  pub reading-first : well_formed s ≡ true → s.kept ≡ 0 → after_reading s r ≡ first_of s r
  unfolding after_reading choose
  reading-first w k = rw (w, eq-eqb s.kept 0 k)

  module _ (w : well_formed s ≡ true) (k : s.kept ≡ 0 → ⊥) where
    pub reading-full : s.intervals ≡ most_intervals → after_reading s r ≡ unchanged (Err Full) s
    unfolding after_reading choose
    reading-full e = rw (w, ne_eqb s.kept 0 k, eq-eqb s.intervals most_intervals e)

    pub reading-measured : (s.intervals ≡ most_intervals → ⊥) → after_reading s r ≡ measured_of s r
    unfolding after_reading choose
    reading-measured e = rw (w, ne_eqb s.kept 0 k, ne_eqb s.intervals most_intervals e)

-- a session is one of these four, and the reading is answered so
pub data Case (s : LossSession) (r : Readings) : Type 0 where
  bad : (WellFormed s → ⊥) → after_reading s r ≡ unchanged (Err NotWellFormed) s → Case s r
  begins : WellFormed s → s.kept ≡ 0 → after_reading s r ≡ first_of s r → Case s r
  stops : WellFormed s → s.kept ≡ 1 → s.intervals ≡ most_intervals → after_reading s r ≡ unchanged (Err Full) s → Case s r
  measures : WellFormed s → s.kept ≡ 1 → s.intervals < most_intervals → after_reading s r ≡ measured_of s r → Case s r

pub cases : (s : LossSession) (r : Readings) → Case s r
cases s r = ⊎_elim good (λ f. bad (failed (well s) f) (reading-bad s r f)) (known (well_formed s))
  where
    ends : well_formed s ≡ true → (s.kept ≡ 0 → ⊥) → Case s r
    ends t k =
        let w = (well s).0 t in
        let one : s.kept ≡ 1 = omega (arith, w.flag) in
        ⊎_elim
        (λ (e : eqb s.intervals most_intervals ≡ true). stops w one (eqb-true _ _ e) (reading-full s r t k (eqb-true _ _ e)))
        (λ (e : eqb s.intervals most_intervals ≡ false). measures w one (omega (arith, w.few, eqb-false s.intervals most_intervals e))
        (reading-measured s r t k (eqb-false _ _ e)))
        (known (eqb s.intervals most_intervals))

    good : well_formed s ≡ true → Case s r
    good t =
        ⊎_elim
        (λ (e : eqb s.kept 0 ≡ true). begins ((well s).0 t) (eqb-true _ _ e) (reading-first s r t (eqb-true _ _ e)))
        (λ (e : eqb s.kept 0 ≡ false). ends t (eqb-false _ _ e))
        (known (eqb s.kept 0))

-- ── what is kept ──

first-well : (s : LossSession) (r : Readings) → WellFormed s → WellFormed (first_of s r).session
first-well s r w = record { flag = omega arith; few = w.few; nothing = λ e. absurd (omega arith); total = bound }
  where
    bound : (d : LossEnd) → nat_abs (total_of d (first_of s r).session) ≤ s.intervals * 4294967295
    bound near = w.total near
    bound far = w.total far

pub measured-total : (d : LossEnd) (s : LossSession) (r : Readings)
    → total_of d (measured_of s r).session ≡ total_of d s +ℤ loss_on d s.last r
measured-total near s r = refl
measured-total far s r = refl

pub measured-well : (s : LossSession) (r : Readings) → WellFormed s → s.kept ≡ 1 → s.intervals < most_intervals
    → WellFormed (measured_of s r).session
measured-well s r w k few = record { flag = w.flag; few = omega arith; nothing = λ e. absurd (omega arith); total = bound }
  where
    bound : (d : LossEnd) → nat_abs (total_of d (measured_of s r).session) ≤ (s.intervals + 1) * 4294967295
    bound d =
        rw (measured-total d s r)
        (omega (
          arith,
          add-size (total_of d s) (loss_on d s.last r),
          w.total d,
          loss-size (sent_of d s.last) (sent_of d r) (received_of d s.last) (received_of d r),
        ))

pub stays : (s : LossSession) (r : Readings) → WellFormed s → WellFormed (after_reading s r).session
stays s r w = go (cases s r)
  where
    go : Case s r → WellFormed (after_reading s r).session
    go (bad n e) = absurd (n w)
    go (begins v k e) = rw e (first-well s r w)
    go (stops v k i e) = rw e w
    go (measures v k i e) = rw e (measured-well s r w k i)
