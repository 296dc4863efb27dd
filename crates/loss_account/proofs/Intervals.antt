-- How a session fills up, reading by reading: what demand 3 says without any premise on the counts. Assumes nothing.
use Prim.Native.Nat.{ℕ, suc, ◌+◌, ◌-◌, ◌≤◌, ◌<◌}
use mathlib.Core.Path.{◌≡◌, refl, ◌∙◌}
use mathlib.Core.Bool.{Bool, true, false}
use mathlib.Core.List.{List, [], ◌∷◌}
use native.Mathlib.Omega.{arith}
use native.Mathlib.Nat.{add-zero}
use lib.Dec.{eqb}
use lib.ListN.{length}
use borrow.Author.Tests.{eqb-true, eqb-false}
use Rattle.std.specs.Prelude.{Err}
use Rattle.base_clock.specs.Run.{after}
use Rattle.loss_session.specs.declared.Readings.{Readings}
use Rattle.loss_session.specs.declared.LossSession.{LossSession}
use Rattle.loss_reading.specs.declared.LossRefusal.TheVariants.{Full}
use Rattle.loss_session.specs.Session.{cleared_session, WellFormed, most_intervals, most_readings}
use Rattle.loss_reading.specs.Reading.{first_of, measured_of, after_reading}
use Rattle.loss_session.proofs.Laws.{well, cleared_well}
use Rattle.loss_reading.proofs.Laws.{stays, reading-first, reading-full, reading-measured}
use Rattle.loss_account.specs.Demand3.{leaves}

-- a session that holds a reading and n intervals
pub record Reach (n : ℕ) (s : LossSession) : Type 0 where
  pub fine : WellFormed s
  pub held : s.kept ≡ 1
  pub count : s.intervals ≡ n

module _ (n : ℕ) (s : LossSession) (h : Reach n s) (r : Readings) where
  pub measures : n < most_intervals → after_reading s r ≡ measured_of s r
  measures few = reading-measured s r ((well s).1 h.fine) (λ z. omega (arith, h.held)) (λ q. omega (arith, h.count))

  pub more : n < most_intervals → Reach (n + 1) (after_reading s r).session
  more few =
      let e = measures few in
      record { fine = stays s r h.fine; held = rw e h.held; count = rw e (omega (arith, h.count)) }

  stops : n ≡ most_intervals → after_reading s r ≡ record { answer = Err Full; session = s }
  stops full = reading-full s r ((well s).1 h.fine) (λ z. omega (arith, h.held)) (h.count ∙ full)

pub starts : (r : Readings) → after_reading cleared_session r ≡ first_of cleared_session r
starts r = reading-first cleared_session r ((well cleared_session).1 cleared_well) refl

pub started : (r : Readings) → Reach 0 (after_reading cleared_session r).session
started r = record { fine = stays cleared_session r cleared_well; held = rw (starts r) refl; count = rw (starts r) refl }

counts : (rs : List Readings) (n : ℕ) (s : LossSession) → Reach n s → n + length rs ≤ most_intervals
    → Reach (n + length rs) (leaves after_reading s rs)
unfolding after
counts [] n s h few = rw (add-zero n) h
counts (r ∷ rs) n s h few =
    let e : n + suc (length rs) ≡ (n + 1) + length rs = omega arith in
    rw e (counts rs (n + 1) (after_reading s r).session (more n s h r (omega arith)) (omega arith))

fills : (rs : List Readings) (n : ℕ) (s : LossSession) → Reach n s → n ≤ most_intervals → most_intervals ≤ n + length rs
    → Reach most_intervals (leaves after_reading s rs)
unfolding after
fills [] n s h few many = let e : n ≡ most_intervals = omega arith in rw e at h
fills (r ∷ rs) n s h few many = go (λ m z. fills rs m z) (eqb n most_intervals) refl
  where
    go : ((m : ℕ) (z : LossSession) → Reach m z → m ≤ most_intervals → most_intervals ≤ m + length rs
        → Reach most_intervals (leaves after_reading z rs))
        → (b : Bool) → eqb n most_intervals ≡ b → Reach most_intervals (leaves after_reading (after_reading s r).session rs)
    go again true e =
        let q : n ≡ most_intervals = eqb-true n most_intervals e in
        rw (stops n s h r q) (again n s h few (omega arith))
    go again false e =
        let q : n < most_intervals = omega (arith, eqb-false n most_intervals e) in
        again (n + 1) (after_reading s r).session (more n s h r q) (omega arith) (omega arith)

pub intervals : (rs : List Readings) → length rs ≤ most_readings → (leaves after_reading cleared_session rs).intervals ≡ length rs - 1
unfolding after
intervals [] few = refl
intervals (r ∷ rs) few = omega (arith, (counts rs 0 (after_reading cleared_session r).session (started r) (omega arith)).count)

pub later : (rs : List Readings) (r : Readings) → most_readings ≤ length rs
    → after_reading (leaves after_reading cleared_session rs) r ≡ record { answer = Err Full; session = leaves after_reading cleared_session rs }
unfolding after
later [] r many = absurd (omega arith)
later (q ∷ rs) r many =
    stops most_intervals _ (fills rs 0 (after_reading cleared_session q).session (started q) (omega arith) (omega arith)) r refl
