-- `frame_measures::delay_fields` meets its contract: the stamps of a good DMM or DMR.
use mathlib.Core.Path.{◌≡◌, refl, sym, ap, ◌∙◌}
use native.Mathlib.Omega.{arith}
use borrow.Author.Rules.{rules}
use Rattle.base_laws.specs.Tests.{choose}
use Rattle.frame_opcodes.specs.Opcodes.{rule_of}
use mathlib.Core.Bool.{true, false}
use Rattle.frame_head.specs.Head.{pdu_of}
use Rattle.frame_measures.specs.Measures.{delay_in, no_delay, delay_of}
use Rattle.frame_message.proofs.There.{two, either}
use Rattle.frame_measures.proofs.delay_fields.Goals as goal

pub returns-then-opcode : goal.returns-then-opcode
unfolding delay_of
returns-then-opcode c = let f = c.args.frame.now in
    let zeros : c.default.result ≡ no_delay = search rules in
    zeros ∙ sym (either f refl c.good_opcode-opcode.ensures (delay_in (pdu_of f)) no_delay 47 46 true c.if-opcode.true)

-- past the test the fixed part is there

pub delay_in-requires : goal.delay_in-requires
unfolding rule_of choose
delay_in-requires c = let f = c.args.frame.now in
    omega (
      arith,
      two f c.pdu_of.ensures.0 c.good_opcode-opcode.ensures 47 46 32 c.if-opcode.false
          (omega arith) (omega arith) refl refl,
    )

pub returns : goal.returns
unfolding delay_of
returns c = let f = c.args.frame.now in
    let h = c.good_opcode-opcode.ensures in
    c.delay_in.ensures
    ∙ ap delay_in c.pdu_of.ensures.0
    ∙ sym (either f refl h (delay_in (pdu_of f)) no_delay 47 46 false c.if-opcode.false)
