-- `frame_loopback_alarm::alarm_period` meets its contract: the period code of a good AIS or LCK.
use mathlib.Core.Path.{refl, sym, ap, ◌∙◌}
use mathlib.Core.List.{List}
use Prim.Native.Nat.{ℕ}
use native.Mathlib.Omega.{arith}
use Rattle.base_laws.specs.Tests.{choose}
use Rattle.frame_opcodes.specs.Opcodes.{rule_of}
use mathlib.Core.Bool.{true, false}
use Rattle.frame_head.specs.Head.{pdu_of, flags_of}
use Rattle.frame_message.specs.Message.{period_code}
use Rattle.frame_loopback_alarm.specs.Fixed.{alarm_of}
use Rattle.frame_message.proofs.There.{two, either}
use Rattle.frame_loopback_alarm.proofs.alarm_period.Goals as goal

-- the period code of a PDU

abbrev code : List ℕ → ℕ
code p = period_code (flags_of p)

pub returns-then-opcode : goal.returns-then-opcode
unfolding alarm_of
returns-then-opcode c = let f = c.args.frame.now in
    sym (either f refl c.good_opcode-opcode.ensures (code (pdu_of f)) 0 33 35 true c.if-opcode.true)

pub bounds-pdu_of-2 : goal.bounds-pdu_of-2
unfolding rule_of choose
bounds-pdu_of-2 c = let long = two c.args.frame.now c.pdu_of.ensures.0
    c.good_opcode-opcode.ensures 33 35 0 c.if-opcode.false (omega arith) (omega arith) refl
    refl in
    omega (arith, long)

pub returns : goal.returns
unfolding alarm_of
returns c = let f = c.args.frame.now in
    c.period_code_of.ensures
    ∙ ap code c.pdu_of.ensures.0
    ∙ sym (either f refl c.good_opcode-opcode.ensures (code (pdu_of f)) 0 33 35 false
    c.if-opcode.false)
