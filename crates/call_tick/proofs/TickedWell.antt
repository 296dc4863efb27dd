-- A well-formed state is well-formed after a tick. Assumes nothing.
use Prim.Native.Nat.{ℕ, zero, suc, ◌-◌, ◌≤◌, ◌<◌}
use mathlib.Core.Path.{◌≡◌, refl}
use mathlib.Core.Bool.{true, false}
use mathlib.Core.List.{List, [], ◌∷◌, map}
use mathlib.Core.Logic.{⊎_elim}
use native.Mathlib.Omega.{arith}
use lib.ListN.{get_or}
use borrow.Author.Tests.{ltb-true}
use Rattle.base_laws.proofs.Tests.{known}
use Rattle.base_period.specs.Periods.{ticks_of}
use Rattle.base_period.proofs.Laws.{period_laws}
use Rattle.state_view.specs.State.{State}
use Rattle.state_view.specs.WellFormed.{WellFormed}
use Rattle.call_tick.specs.Tick.{ticks_left, next_of, ticked_of}

-- 0 lowered is 0, so also past the end
pub lowered-at : (l : List ℕ) (i : ℕ) → get_or (map (λ t. t - 1) l) i 0 ≡ get_or l i 0 - 1
lowered-at [] i = refl
lowered-at (x ∷ l) zero = refl
lowered-at (x ∷ l) (suc i) = lowered-at l i

-- a bound holds of less, and 0 less 1 is 0
less : {a b : ℕ} → a ≤ b → a - 1 ≤ b
less h = omega arith

less-at : {a b n : ℕ} → a ≡ b - 1 → b ≤ n → a ≤ n
less-at e h = omega arith

none-at : {a b : ℕ} → a ≡ b - 1 → b ≡ 0 → a ≡ 0
none-at e h = omega arith

next_in : {n t : ℕ} → 1 < n → n ≤ t → (1 ≤ n - 1) × (n - 1 ≤ t)
next_in h k = (omega arith, omega arith)

same : (t : ℕ) → t ≤ t
same t = omega arith

module _ (s : State) (w : WellFormed s) where
  next-within : (1 ≤ next_of s) × (next_of s ≤ ticks_of s.settings.period)
  next-within =
      let v = w.settings in
      let some = (period_laws.some s.settings.period).1 (v.some_period, v.period) in
      ⊎_elim
      (λ (t : ticks_left s ≡ true). rw t (next_in (ltb-true 1 s.next t) w.next))
      (λ (f : ticks_left s ≡ false). rw f (some, same (ticks_of s.settings.period)))
      (known (ticks_left s))

  pub ticked_well : WellFormed (ticked_of s)
  ticked_well = record {
    settings = w.settings;
    timers = λ i. less-at (lowered-at s.timers i) (w.timers i);
    mismerge = less w.mismerge;
    unexpected_level = less w.unexpected_level;
    unexpected_mep = less w.unexpected_mep;
    unexpected_period = less w.unexpected_period;
    ais = less w.ais;
    lck = less w.lck;
    some_tick = next-within.0;
    next = next-within.1;
    rdi = w.rdi;
    no_timer = λ i h. none-at (lowered-at s.timers i) (w.no_timer i h);
    no_rdi = w.no_rdi;
    session = w.session;
  }
