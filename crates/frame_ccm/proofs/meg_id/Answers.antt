-- `frame_ccm::meg_id` meets its contract: the 48 octets of a good CCM, with their place; an empty part at the frame's start.
use mathlib.Core.Path.{◌≡◌, refl, sym, ap, ◌∙◌}
use mathlib.Core.List.{[]}
use Prim.Native.Nat.{ℕ, ◌+◌, ◌≤◌}
use native.Mathlib.Omega.{arith}
use lib.ListN.{length, length-drop}
use borrow.Author.Tests.{le-ltb}
use Rattle.base_laws.specs.Tests.{choose}
use Rattle.frame_opcodes.specs.Opcodes.{rule_of}
use Rattle.frame_head.specs.Head.{head_length, pdu_of, behind_head}
use Rattle.frame_ccm.specs.Ccm.{meg_in, meg_of, meg_place}
use Rattle.frame_message.proofs.There.{one, is, is_not}
use Rattle.frame_ccm.proofs.meg_id.Goals as goal

-- ten octets behind the head

moved : (p : ℕ × ℕ) → ◌≡◌ {A = ℕ × ℕ} (p.0, 10 + (14 + p.1)) (p.0, behind_head 10 + p.1)
moved p = let e : 10 + (14 + p.1) ≡ 14 + 10 + p.1 = omega arith in ap (λ (n : ℕ). (p.0, n)) e

pub returns-then-good_opcode-ne1 : goal.returns-then-good_opcode-ne1
unfolding meg_of meg_place rule_of choose
returns-then-good_opcode-ne1 c = let a = c.args.frame in
    let h = c.good_opcode.ensures in (
      sym (is_not a.now refl h (meg_in (pdu_of a.now)) [] 1 c.if-good_opcode-ne1.true),
      sym (is_not a.now refl h (a.ref_ptr.0, behind_head 10 + a.ref_ptr.1) a.ref_ptr 1 c.if-good_opcode-ne1.true),
    )

-- past the test the fixed part is there

pub meg_in-requires : goal.meg_in-requires
unfolding rule_of choose
meg_in-requires c =
    let long : 4 + 70 ≤ length (pdu_of c.args.frame.now) = let f = c.args.frame.now in
    omega (arith, one f refl c.good_opcode.ensures 1 70 c.if-good_opcode-ne1.false (omega arith) refl) in
    omega (arith, long, ap length c.pdu_of.ensures.0)

pub returns : goal.returns
unfolding meg_of meg_place rule_of choose
returns c =
    let long : 4 + 70 ≤ length (pdu_of c.args.frame.now) = let f = c.args.frame.now in
    omega (arith, one f refl c.good_opcode.ensures 1 70 c.if-good_opcode-ne1.false (omega arith) refl) in
    let a = c.args.frame in
    let h = c.good_opcode.ensures in
    let w = long in
    let there : head_length ≤ length a.now = omega (arith, w, length-drop 14 a.now) in (
      c.meg_in.ensures.0 ∙ ap meg_in c.pdu_of.ensures.0
          ∙ sym (is a.now refl h (meg_in (pdu_of a.now)) [] 1 c.if-good_opcode-ne1.false),
      c.meg_in.ensures.1
          ∙ ap (λ (p : ℕ × ℕ). (p.0, 10 + p.1)) (c.pdu_of.ensures.1 ∙ rw (le-ltb (length a.now) 14 there))
          ∙ moved a.ref_ptr
          ∙ sym (is a.now refl h (a.ref_ptr.0, behind_head 10 + a.ref_ptr.1) a.ref_ptr 1 c.if-good_opcode-ne1.false),
    )
