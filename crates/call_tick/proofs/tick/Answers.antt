-- `call_tick::tick` meets its contract: one law for each way that a tick ends.
use mathlib.Core.Path.{◌≡◌, sym, ap, ◌∙◌}
use mathlib.Core.Bool.{not}
use lib.ListN.{length}
use Rattle.state_view.specs.State.{State, lying, run_words, loss_totals}
use Rattle.state_view.specs.WellFormed.{well_formed}
use Rattle.message_parts.specs.Buffer.{buffer_of}
use Rattle.call_tick_ccm.specs.Ccm.{ccm_of}
use Rattle.call_tick.proofs.Ended.{good, bad, ends_2, ends-quiet, ends_3, ends-sent}
use borrow.Author.Rules.{rules}
use Rattle.call_tick.proofs.tick.Goals as goal

pub returns-then-not-is_well_formed : goal.returns-then-not-is_well_formed
returns-then-not-is_well_formed c =
    let a = c.args in
    let s = lying a.settings.set a.settings.names a.settings.ids a.timers.now a.rdi.now a.run.now a.totals.now in
    let w : length a.run.now ≡ run_words = search rules in
    let z : length a.totals.now ≡ loss_totals = search rules in
    record { out_after = ends_2 s a.out.now (bad s (c.is_well_formed.ensures ∙ ap well_formed c.lend.ensures) (ap not c.if-not-is_well_formed.true)); whole = record { words = w; both = z } }

pub returns-then-left-gt1 : goal.returns-then-left-gt1
returns-then-left-gt1 c =
    let a = c.args in
    let s = lying a.settings.set a.settings.names a.settings.ids a.timers.now a.rdi.now a.run.now a.totals.now in
    let well = good s (c.is_well_formed.ensures ∙ ap well_formed c.lend.ensures) (ap not c.if-not-is_well_formed.false) in
    record { out_after = ends-quiet s a.out.now well c.if-left-gt1.true c.pass_tick.ensures.totals_value; whole = c.pass_tick.ensures.whole }

pub returns-then-out-lt-CCM_LENGTH : goal.returns-then-out-lt-CCM_LENGTH
returns-then-out-lt-CCM_LENGTH c =
    let a = c.args in
    let s = lying a.settings.set a.settings.names a.settings.ids a.timers.now a.rdi.now a.run.now a.totals.now in
    let w : length a.run.now ≡ run_words = search rules in
    let z : length a.totals.now ≡ loss_totals = search rules in
    let well = good s (c.is_well_formed.ensures ∙ ap well_formed c.lend.ensures) (ap not c.if-not-is_well_formed.false) in
    record { out_after = ends_3 s a.out.now well c.if-left-gt1.false c.if-out-lt-CCM_LENGTH.true; whole = record { words = w; both = z } }

pub returns : goal.returns
returns c =
    let a = c.args in
    let s = lying a.settings.set a.settings.names a.settings.ids a.timers.now a.rdi.now a.run.now a.totals.now in
    let well = good s (c.is_well_formed.ensures ∙ ap well_formed c.lend.ensures) (ap not c.if-not-is_well_formed.false) in
    let passed = c.pass_tick-2.ensures in
    let wrote = c.write_own_ccm-written.ensures.out_after in
    let lent = c.lend-2.ensures in record {
      out_after = ends-sent s a.out.now well c.if-left-gt1.false c.if-out-lt-CCM_LENGTH.false
          c.ticks_of.ensures passed.totals_value
          (wrote.0 ∙ ap (λ (x : State). buffer_of (ccm_of x) a.out.now) lent)
          (ap (λ (x : State). length (ccm_of x)) (sym lent) ∙ wrote.1);
      whole = passed.whole;
    }
