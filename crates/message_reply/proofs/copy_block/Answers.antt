-- `message_reply::copy_block` meets its contract: the block is laid over an array as long as it, and that over the buffer.
use mathlib.Core.Path.{refl}
use native.Mathlib.Omega.{arith}
use lib.ListN.{replicate}
use Rattle.message_reply.proofs.Blocks.{block_copied}
use Rattle.message_reply.proofs.copy_block.Goals as goal

pub returns : goal.returns
returns c =
    let a = c.args in
    block_copied a.at 16 a.from.now (replicate 16 0) a.into.now (omega arith) refl
    c.copy_octets.ensures
    c.copy_octets-2.ensures
