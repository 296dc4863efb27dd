-- `call_tick_lower::pass_tick` meets its contract: two runs of timers lowered, one word stored.
use mathlib.Core.Path.{◌≡◌}
use lib.ListN.{length}
use Rattle.state_view.specs.State.{run_words, loss_totals}
use Rattle.call_tick_lower.proofs.Lower.{passed}
use borrow.Author.Rules.{rules}
use Rattle.call_tick_lower.proofs.pass_tick.Goals as goal

pub returns : goal.returns
returns c =
    let a = c.args in
    let w : length a.run.now ≡ run_words = search rules in
    let z : length a.totals.now ≡ loss_totals = search rules in
    let view = passed a.settings.set.now a.settings.names.now a.settings.ids.now a.timers.now a.rdi.now a.run.now a.totals.now a.left w
    c.lower_all.ensures c.lower_running.ensures in
    record { totals_value = view.0; whole = record { words = view.1; both = z } }
