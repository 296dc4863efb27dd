-- `linkbox_line::linkbox_raw_loss_line` meets its contract: refusal 2, or what writing the session's line is answered.
use Rattle.state_view.specs.State.{State, lying}
use Rattle.linkbox_line.proofs.Lines.{ends_2, ends-written}
use Rattle.linkbox_line.proofs.linkbox_raw_loss_line.Goals as goal

pub returns-then-not-is_well_formed : goal.returns-then-not-is_well_formed
returns-then-not-is_well_formed c =
    let a = c.args in
    let s : State = lying a.set a.names a.ids a.timers.now a.rdi.now a.run.now a.totals.now in
    ends_2 s a.into.now c.is_well_formed.ensures c.if-not-is_well_formed.true

pub returns : goal.returns
returns c =
    let a = c.args in
    let s : State = lying a.set a.names a.ids a.timers.now a.rdi.now a.run.now a.totals.now in
    ends-written s a.into.now c.is_well_formed.ensures c.if-not-is_well_formed.false c.write_line-answer.ensures.0 c.line_of-line.ensures
    c.tell.ensures
