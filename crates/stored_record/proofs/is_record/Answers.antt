-- `stored_record::is_record` meets its contract: too few octets, or the two fields of the head.
use native.Mathlib.Omega.{arith}
use Rattle.stored_record.proofs.RecordTest.{too_short, fields_tell}
use Rattle.stored_record.proofs.is_record.Goals as goal

pub returns-then-from-lt-HEAD : goal.returns-then-from-lt-HEAD
returns-then-from-lt-HEAD c = let a = c.args in too_short a.kind a.body a.from.now (omega arith)

pub returns-then-from-body : goal.returns-then-from-body
returns-then-from-body c = let a = c.args in too_short a.kind a.body a.from.now (omega arith)

pub returns : goal.returns
returns c = let a = c.args in
    fields_tell a.kind a.body a.from.now (omega arith) c.read_little.ensures.is c.read_little-2.ensures.is
