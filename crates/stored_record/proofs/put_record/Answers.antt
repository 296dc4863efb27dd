-- `stored_record::put_record` meets its contract: length, kind and body, each laid behind the one before it.
use native.Mathlib.Omega.{arith}
use Rattle.stored_record.proofs.Laws.{record_laid}
use Rattle.stored_record.proofs.put_record.Goals as goal

pub returns : goal.returns
returns c = let body = c in
    let kind = c in
    let size = c in
    let a = c.args in
    record_laid a.kind a.body.now a.into.now (omega arith) size.write_little.ensures kind.write_little-2.ensures
    body.copy_octets.ensures
