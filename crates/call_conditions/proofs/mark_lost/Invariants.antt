-- `call_conditions::mark_lost` meets its contract. The invariant: the first i slots are marked, the others as they were.
use mathlib.Core.Path.{◌≡◌}
use Rattle.base_laws.specs.Lists.{laid}
use Rattle.call_conditions.specs.Conditions.{table, lost_at}
use Rattle.call_conditions.proofs.mark_lost.Given as goal

abbrev pub invariant-loop-i : goal.invariant-loop-i
invariant-loop-i l = (l.used ≡ l.count) × (l.lost ≡ laid 0 (table (lost_at l.count l.timers) l.i) l.initial.lost)
