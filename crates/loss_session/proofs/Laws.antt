-- That the test means the rules, and that a cleared session keeps them. Assumes nothing.
use Prim.Native.Nat.{ℕ, ◌*◌, ◌≤◌}
use mathlib.Core.Path.{◌≡◌, refl, ap}
use mathlib.Core.Bool.{true, false, ◌&&◌, ◌||◌}
use mathlib.Core.Logic.{◌↔◌, inl, inr, ⊎_elim}
use native.Mathlib.Omega.{arith}
use lib.Dec.{leb, eqb}
use lib.IntN.{nat_abs}
use borrow.Author.Tests.{leb-true, le-leb, eqb-true, eqb-false, eq-eqb}
use Rattle.base_laws.proofs.Tests.{known, both_true, either_true}
use Rattle.loss_session.specs.declared.Readings.{Readings}
use Rattle.loss_session.specs.declared.LossSession.{LossSession}
use Rattle.loss_session.specs.Session.{LossEnd, near, far, total_of, no_readings, cleared_session, WellFormed, all_zero, well_formed}
use Rattle.loss_session.specs.Session.{most_intervals}

four_zeros : (a b c d : ℕ) → a ≡ 0 → b ≡ 0 → c ≡ 0 → d ≡ 0 → record { txf = a; rxf = b; txb = c; ours = d } ≡ no_readings
four_zeros a b c d p q r t = rw (p, q, r, t)

zero_readings : (r : Readings) → (all_zero r ≡ true) ↔ (r ≡ no_readings)
zero_readings r = (to, λ e. ap all_zero e)
  where
    to : all_zero r ≡ true → r ≡ no_readings
    to h =
        let a = (both_true (eqb r.txf 0 && eqb r.rxf 0 && eqb r.txb 0) (eqb r.ours 0)).0 h in
        let b = (both_true (eqb r.txf 0 && eqb r.rxf 0) (eqb r.txb 0)).0 a.0 in
        let c = (both_true (eqb r.txf 0) (eqb r.rxf 0)).0 b.0 in
        four_zeros r.txf r.rxf r.txb r.ours (eqb-true _ _ c.0) (eqb-true _ _ c.1) (eqb-true _ _ b.1)
        (eqb-true _ _ a.1)

module _ (s : LossSession) where
  well-to : well_formed s ≡ true → WellFormed s
  unfolding well_formed
  well-to h =
      let a = (both_true _ (leb (nat_abs s.far) (s.intervals * 4294967295))).0 h in
      let b = (both_true _ (leb (nat_abs s.near) (s.intervals * 4294967295))).0 a.0 in
      let c = (both_true _ (eqb s.kept 1 || eqb s.intervals 0 && all_zero s.last)).0 b.0 in
      let d = (both_true (leb s.kept 1) (leb s.intervals most_intervals)).0 c.0 in
      record { flag = leb-true _ _ d.0; few = leb-true _ _ d.1; nothing = none c.1; total = bound b.1 a.1 }
    where
      none : (eqb s.kept 1 || eqb s.intervals 0 && all_zero s.last) ≡ true → s.kept ≡ 0 → (s.intervals ≡ 0)
          × (s.last ≡ no_readings)
      none h e =
          ⊎_elim
          (λ k. absurd (omega (arith, eqb-true s.kept 1 k)))
          (λ k. let p = (both_true (eqb s.intervals 0) (all_zero s.last)).0 k in
          (eqb-true _ _ p.0, (zero_readings s.last).0 p.1))
          ((either_true (eqb s.kept 1) (eqb s.intervals 0 && all_zero s.last)).0 h)

      bound : leb (nat_abs s.near) (s.intervals * 4294967295) ≡ true → leb (nat_abs s.far) (s.intervals * 4294967295) ≡ true
          → (d : LossEnd) → nat_abs (total_of d s) ≤ s.intervals * 4294967295
      bound n f near = leb-true _ _ n
      bound n f far = leb-true _ _ f

  well-from : WellFormed s → well_formed s ≡ true
  unfolding well_formed
  well-from w =
      rw (
        le-leb s.kept 1 w.flag,
        le-leb s.intervals most_intervals w.few,
        held,
        le-leb (nat_abs s.near) (s.intervals * 4294967295) (w.total near),
        le-leb (nat_abs s.far) (s.intervals * 4294967295) (w.total far),
      )
    where
      held : (eqb s.kept 1 || eqb s.intervals 0 && all_zero s.last) ≡ true
      held =
          ⊎_elim
          (λ (t : eqb s.kept 1 ≡ true). (either_true _ (eqb s.intervals 0 && all_zero s.last)).1 (inl t))
          (λ (f : eqb s.kept 1 ≡ false).
          let n = w.nothing (omega (arith, eqb-false s.kept 1 f, w.flag)) in
          (either_true (eqb s.kept 1) _).1 (inr ((both_true _ _).1 (eq-eqb s.intervals 0 n.0, (zero_readings s.last).1 n.1))))
          (known (eqb s.kept 1))

  pub well : (well_formed s ≡ true) ↔ WellFormed s
  well = (well-to, well-from)

pub cleared_well : WellFormed cleared_session
cleared_well = record { flag = omega arith; few = omega arith; nothing = λ e. (refl, refl); total = bound }
  where
    bound : (d : LossEnd) → nat_abs (total_of d cleared_session) ≤ cleared_session.intervals * 4294967295
    bound near = omega arith
    bound far = omega arith
