-- `message_parts::parts::write_head` meets its contract: source and EtherType are laid, and four octets stored behind them.
use native.Mathlib.Omega.{arith}
use lib.ListN.{length-set}
use Rattle.message_parts.proofs.Laid.{head-laid}
use Rattle.message_parts.proofs.parts.write_head.Goals as goal

pub bounds-into : goal.bounds-into
bounds-into c = simp length-set (omega arith)

pub bounds-into-2 : goal.bounds-into-2
bounds-into-2 c = simp length-set (omega arith)

pub bounds-into-3 : goal.bounds-into-3
bounds-into-3 c = simp length-set (omega arith)

pub returns : goal.returns
returns c = let type = c in
    let address = c in
    let a = c.args in
    head-laid a.source.now a.first a.opcode a.flags a.offset a.into.now (omega arith) (omega arith)
    address.copy_octets.ensures type.write_big.ensures
