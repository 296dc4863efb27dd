-- `call_tick_lower::lower_running` meets its contract: the timers are the first words.
use Prim.Native.Nat.{ℕ}
use mathlib.Core.List.{List, ◌++◌}
use mathlib.Core.Path.{ap, ◌∙◌}
use lib.ListN.{drop}
use Rattle.call_tick_lower.proofs.Lower.{lower-first}
use Rattle.call_tick_lower.proofs.lower_running.Goals as goal

pub returns : goal.returns
returns c = let run = c.args.run.now in ap (λ (m : List ℕ). m ++ drop 6 run) c.lower_all.ensures ∙ lower-first 6 run
