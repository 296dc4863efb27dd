-- `stored_sheet_lines::write_lines` meets its contract. The loop's invariant: the text of the records so far stands in the buffer, and the
-- text of the rest is still to come.
use native.Mathlib.Omega.{arith}
use mathlib.Core.Path.{◌∙◌}
use Rattle.stored_sheet_lines.proofs.Chunks.{ends-no-room}
use Rattle.stored_sheet_lines.proofs.Turns.{at-start, at-end, line-room, turn_stops, turn_goes}
use Rattle.stored_sheet_lines.proofs.write_lines.Goals as goal

pub returns-then-into-lt-LONGEST : goal.returns-then-into-lt-LONGEST
returns-then-into-lt-LONGEST c = let a = c.args in ends-no-room a.from.now a.into.now (omega arith)

pub returns-then-into-from : goal.returns-then-into-from
returns-then-into-from c = let a = c.args in ends-no-room a.from.now a.into.now (omega arith)

pub loop-record-init : goal.loop-record-init
loop-record-init c =
    let all = c.chunks-record-items.ensures in
    let gives = c.into_iter-record-iterator.ensures.into_iter_gives in
    (rw (gives, all.rest) (at-start c.args.from.now c.args.into.now), omega arith, rw gives all.size)

pub put_next-requires : goal.put_next-requires
put_next-requires c = let i = c.loop-record.invariant in line-room i.0 i.1

pub returns-in-Err : goal.returns-in-Err
returns-in-Err c =
    let i = c.loop-record.invariant in
    let e = c.put_next.ensures in
    let n = c.in-Some.ensures.steps in
    turn_stops i.0 i.1 _ _ n.1.0 i.2 n.1.1 n.1.2 e.0 e.1 c.in-Err.is

pub loop-record-preserved : goal.loop-record-preserved
loop-record-preserved c =
    let i = c.loop-record.invariant in
    let e = c.put_next.ensures in
    let n = c.in-Some.ensures.steps in
    (turn_goes i.0 i.1 _ _ n.1.0 i.2 n.1.1 n.1.2 e.0 e.1 c.in-Ok.is, i.1, n.0 ∙ i.2)

pub returns : goal.returns
returns c = let i = c.loop-record.invariant in at-end i.0 i.1 c.in-None.ensures.steps.1.0
