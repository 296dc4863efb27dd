-- `call_clear::clear` meets its contract: refusal 2, or the cleared session put in its place.
use mathlib.Core.Path.{◌≡◌, ap}
use mathlib.Core.Bool.{not}
use lib.ListN.{length}
use Rattle.state_view.specs.State.{lying, run_words, loss_totals}
use Rattle.call_clear.proofs.Clears.{ends_2, ends-cleared}
use borrow.Author.Rules.{rules}
use Rattle.call_clear.proofs.clear.Goals as goal

pub returns-then-not-is_well_formed : goal.returns-then-not-is_well_formed
returns-then-not-is_well_formed c =
    let a = c.args in
    let s = lying a.settings.set a.settings.names a.settings.ids a.timers.now a.rdi.now a.run.now a.totals.now in
    let w : length a.run.now ≡ run_words = search rules in
    let z : length a.totals.now ≡ loss_totals = search rules in
    record { totals_value = ends_2 s c.is_well_formed.ensures (ap not c.if-not-is_well_formed.true); whole = record { words = w; both = z } }

pub returns : goal.returns
returns c =
    let a = c.args in
    let s = lying a.settings.set a.settings.names a.settings.ids a.timers.now a.rdi.now a.run.now a.totals.now in
    let put = c.put_session.ensures in record {
      totals_value = ends-cleared s c.is_well_formed.ensures (ap not c.if-not-is_well_formed.false)
          c.cleared.ensures put.totals_value;
      whole = put.whole;
    }
