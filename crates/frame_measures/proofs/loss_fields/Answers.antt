-- `frame_measures::loss_fields` meets its contract: the counts of a good LMM or LMR.
use mathlib.Core.Path.{◌≡◌, refl, sym, ap, ◌∙◌}
use native.Mathlib.Omega.{arith}
use borrow.Author.Rules.{rules}
use Rattle.base_laws.specs.Tests.{choose}
use Rattle.frame_opcodes.specs.Opcodes.{rule_of}
use mathlib.Core.Bool.{true, false}
use Rattle.frame_head.specs.Head.{pdu_of}
use Rattle.frame_measures.specs.Measures.{loss_in, no_loss, loss_of}
use Rattle.frame_message.proofs.There.{two, either}
use Rattle.frame_measures.proofs.loss_fields.Goals as goal

pub returns-then-opcode : goal.returns-then-opcode
unfolding loss_of
returns-then-opcode c = let f = c.args.frame.now in
    let zeros : c.default.result ≡ no_loss = search rules in
    zeros ∙ sym (either f refl c.good_opcode-opcode.ensures (loss_in (pdu_of f)) no_loss 43 42 true c.if-opcode.true)

-- past the test the fixed part is there

pub loss_in-requires : goal.loss_in-requires
unfolding rule_of choose
loss_in-requires c = let f = c.args.frame.now in
    omega (
      arith,
      two f c.pdu_of.ensures.0 c.good_opcode-opcode.ensures 43 42 12 c.if-opcode.false
          (omega arith) (omega arith) refl refl,
    )

pub returns : goal.returns
unfolding loss_of
returns c = let f = c.args.frame.now in
    let h = c.good_opcode-opcode.ensures in
    c.loss_in.ensures
    ∙ ap loss_in c.pdu_of.ensures.0
    ∙ sym (either f refl h (loss_in (pdu_of f)) no_loss 43 42 false c.if-opcode.false)
