-- `message_reply::copy_request` meets its contract. The loop's invariant: the first `at` octets are laid. It ends before a block that would
-- begin at the last one or behind it, whether one has just been copied or none was needed.
use native.Mathlib.Omega.{arith}
use mathlib.Core.Path.{ap, sym, ◌∙◌}
use Prim.Native.Nat.{◌+◌}
use Rattle.base_laws.specs.Lists.{part, laid}
use Rattle.base_laws.proofs.Overlaid.{laid_none}
use Rattle.message_reply.proofs.Blocks.{block_next, block_last}
use Rattle.message_reply.proofs.copy_request.Goals as goal
use Rattle.message_reply.proofs.copy_request.Goals.{else-loop-at-test, then-loop-at-test+else-last-at-gt16}

pub loop-at-init : goal.loop-at-init
loop-at-init c = record { low = omega arith; laid = sym (laid_none 0 c.args.into.now) }

pub loop-at-preserved : goal.loop-at-preserved
loop-at-preserved c =
    let l = c.loop-at in
    let a = c.args in
    record {
      low = omega arith;
      laid = c.copy_block.ensures
          ∙ ap (laid l.at (part l.at 16 a.request.now)) l.invariant.laid
          ∙ block_next l.at 16 a.request.now a.into.now (omega arith) (omega arith);
    }

pub returns : goal.returns
returns c =
    let l = c.loop-at in
    let a = c.args in
    let r = a.request.now in
    c.copy_block-2.ensures
    ∙ elim c.loop-at-test.branch [
      | else-loop-at-test w ↦
          ap (laid _ (part _ 16 r)) (w.into-is ∙ l.invariant.laid)
          ∙ block_last l.at _ 16 r a.into.now (omega arith) (omega arith) (omega arith) (omega arith)
      | then-loop-at-test+else-last-at-gt16 w ↦
          ap (laid _ (part _ 16 r))
          (w.into-is
          ∙ w.copy_block.ensures
          ∙ ap (laid l.at (part l.at 16 r)) l.invariant.laid
          ∙ block_next l.at 16 r a.into.now (omega arith) (omega arith))
          ∙ block_last (l.at + 16) _ 16 r a.into.now (omega arith) (omega arith) (omega arith) (omega arith)
    ]
