-- `call_tick_lower::lower_all` meets its contract. The invariant: the timers so far are lowered, the others as they were.
use Prim.Native.Nat.{◌-◌}
use mathlib.Core.Path.{◌≡◌}
use Rattle.base_laws.specs.Lists.{on_first}
use Rattle.call_tick_lower.proofs.lower_all.Given as goal

abbrev pub invariant-loop-timer : goal.invariant-loop-timer
invariant-loop-timer l = l.timers ≡ on_first (λ t. t - 1) l.timer-index l.initial.timers
