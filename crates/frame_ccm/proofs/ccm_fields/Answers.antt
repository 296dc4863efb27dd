-- `frame_ccm::ccm_fields` meets its contract: the fields of a good CCM.
use mathlib.Core.Path.{◌≡◌, refl, sym, ap, ◌∙◌}
use native.Mathlib.Omega.{arith}
use borrow.Author.Rules.{rules}
use Rattle.base_laws.specs.Tests.{choose}
use Rattle.frame_opcodes.specs.Opcodes.{rule_of}
use Rattle.frame_head.specs.Head.{pdu_of}
use Rattle.frame_ccm.specs.Ccm.{ccm_in, no_ccm, ccm_of}
use Rattle.frame_message.proofs.There.{one, is, is_not}
use Rattle.frame_ccm.proofs.ccm_fields.Goals as goal

pub returns-then-good_opcode-ne1 : goal.returns-then-good_opcode-ne1
unfolding ccm_of
returns-then-good_opcode-ne1 c = let f = c.args.frame.now in
    let zeros : c.default.result ≡ no_ccm = search rules in
    zeros ∙ sym (is_not f refl c.good_opcode.ensures (ccm_in (pdu_of f)) no_ccm 1 c.if-good_opcode-ne1.true)

-- past the test the fixed part is there

pub ccm_in-requires : goal.ccm_in-requires
unfolding rule_of choose
ccm_in-requires c = let f = c.args.frame.now in
    omega (
      arith,
      one f c.pdu_of.ensures.0 c.good_opcode.ensures 1 70 c.if-good_opcode-ne1.false
          (omega arith) refl,
    )

pub returns : goal.returns
unfolding ccm_of
returns c = let f = c.args.frame.now in
    let h = c.good_opcode.ensures in
    c.ccm_in.ensures
    ∙ ap ccm_in c.pdu_of.ensures.0
    ∙ sym (is f refl h (ccm_in (pdu_of f)) no_ccm 1 c.if-good_opcode-ne1.false)
