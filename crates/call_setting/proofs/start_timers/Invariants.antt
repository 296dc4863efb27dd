-- `call_setting::start_timers` meets its contract. The invariant: of the first i timers the used ones are the hold time, the others as they
-- were.
use Prim.Native.Nat.{min}
use mathlib.Core.Path.{◌≡◌}
use Rattle.base_laws.specs.Lists.{on_first}
use Rattle.call_setting.proofs.start_timers.Given as goal

abbrev pub invariant-loop-i : goal.invariant-loop-i
invariant-loop-i l = (l.used ≡ l.count) × (l.timers ≡ on_first (λ y. l.hold) (min l.i l.used) l.initial.timers)
