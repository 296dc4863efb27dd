-- `stored_record::write_record` meets its contract: one law for each way that it ends.
use Rattle.stored_record.proofs.Writing.{ends_4, ends_3, ends-written, fits}
use Rattle.stored_record.proofs.write_record.Goals as goal

pub returns-then-good-body : goal.returns-then-good-body
returns-then-good-body c = let a = c.args in
    ends_4 a.good a.kind a.body.now a.into.now c.if-good-body.true

pub returns-then-into-body : goal.returns-then-into-body
returns-then-into-body c = let a = c.args in
    ends_3 a.good a.kind a.body.now a.into.now c.if-good-body.false c.if-into-body.true

pub put_record-requires : goal.put_record-requires
put_record-requires c = let a = c.args in
    (c.if-into-body.false, fits a.good a.body.now c.if-good-body.false)

pub returns : goal.returns
returns c = let p = c in
    let a = c.args in
    ends-written a.good a.kind a.body.now a.into.now c.if-good-body.false c.if-into-body.false
    p.put_record.ensures
