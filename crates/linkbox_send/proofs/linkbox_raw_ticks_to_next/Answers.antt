-- `linkbox_send::linkbox_raw_ticks_to_next` meets its contract: 0, or the state's own count.
use Rattle.state_view.specs.State.{State, lying}
use Rattle.linkbox_send.proofs.Next.{ends_0, ends_next}
use Rattle.linkbox_send.proofs.linkbox_raw_ticks_to_next.Goals as goal

pub returns-then-not-is_well_formed : goal.returns-then-not-is_well_formed
returns-then-not-is_well_formed c =
    let a = c.args in
    let s : State = lying a.set a.names a.ids a.timers.now a.rdi.now a.run.now a.totals.now in
    ends_0 s c.is_well_formed.ensures c.if-not-is_well_formed.true

pub returns : goal.returns
returns c =
    let a = c.args in
    let s : State = lying a.set a.names a.ids a.timers.now a.rdi.now a.run.now a.totals.now in
    ends_next s c.is_well_formed.ensures c.if-not-is_well_formed.false
