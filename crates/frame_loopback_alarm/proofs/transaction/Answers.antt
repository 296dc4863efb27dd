-- `frame_loopback_alarm::transaction` meets its contract: the number of a good LBM or LBR.
use mathlib.Core.Path.{refl, sym, ap, ◌∙◌}
use native.Mathlib.Omega.{arith}
use Rattle.base_laws.specs.Tests.{choose}
use Rattle.frame_opcodes.specs.Opcodes.{rule_of}
use mathlib.Core.Bool.{true, false}
use Rattle.frame_head.specs.Head.{pdu_of, word}
use Rattle.frame_loopback_alarm.specs.Fixed.{transaction_of}
use Rattle.frame_message.proofs.There.{two, either}
use Rattle.frame_loopback_alarm.proofs.transaction.Goals as goal

pub returns-then-opcode : goal.returns-then-opcode
unfolding transaction_of
returns-then-opcode c = let f = c.args.frame.now in
    sym (either f refl c.good_opcode-opcode.ensures (word 4 (pdu_of f)) 0 3 2 true c.if-opcode.true)

pub read_big-requires : goal.read_big-requires
unfolding rule_of choose
read_big-requires c = let long = two c.args.frame.now c.pdu_of.ensures.0
    c.good_opcode-opcode.ensures 3 2 4 c.if-opcode.false (omega arith) (omega arith) refl refl in
    (omega arith, omega (arith, long))

pub returns : goal.returns
unfolding transaction_of
returns c = let f = c.args.frame.now in
    c.read_big.ensures.is
    ∙ ap (word 4) c.pdu_of.ensures.0
    ∙ sym (either f refl c.good_opcode-opcode.ensures ((word 4) (pdu_of f)) 0 3 2 false
    c.if-opcode.false)
