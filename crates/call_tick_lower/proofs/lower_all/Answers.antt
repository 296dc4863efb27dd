-- `call_tick_lower::lower_all` meets its contract. The invariant: the timers so far are lowered, the others as they were.
use Prim.Native.Nat.{◌-◌}
use mathlib.Core.Path.{◌∙◌}
use native.Mathlib.Omega.{arith}
use Rattle.base_laws.proofs.OnFirst.{on_first-none, on_first-all}
use Rattle.call_tick_lower.proofs.Lower.{lower-next}
use Rattle.call_tick_lower.proofs.lower_all.Goals as goal

pub loop-timer-init : goal.loop-timer-init
loop-timer-init c = on_first-none (λ t. t - 1) c.args.timers.now

pub loop-timer-preserved : goal.loop-timer-preserved
loop-timer-preserved c = let l = c.loop-timer in lower-next l.timer-index c.args.timers.now _ l.invariant c.saturating_sub.ensures

pub returns : goal.returns
returns c = let l = c.loop-timer in l.invariant ∙ on_first-all (λ t. t - 1) l.timer-index c.args.timers.now (omega arith)
