-- The row that a CCM of version 1 with offset 74 is read as a CCM. Assumes nothing.
use Prim.Native.Nat.{ℕ, ◌+◌, ◌%◌}
use mathlib.Core.Path.{◌≡◌, refl, sym, ap, ◌∙◌, subst}
use mathlib.Core.Bool.{Bool, true, false, true≢false}
use mathlib.Core.List.{List, ◌∷◌, ◌++◌}
use native.Mathlib.Omega.{arith}
use lib.ListN.{length, drop, length-append}
use lib.Seq.{drop_at}
use borrow.Author.Tests.{eq-eqb, ne_eqb}
use Rattle.std.specs.Prelude.{Result, Ok, Err}
use Rattle.frame_message_answer.specs.declared.NoMessage.{NoMessage}
use Rattle.frame_reader_answer.specs.declared.Bad.{Bad}
use Rattle.base_laws.specs.Tests.{choose}
use Rattle.base_bits.specs.Fields.{first_octet}
use Rattle.frame_opcodes.specs.Opcodes.{rule_of}
use Rattle.frame_tlvs.specs.Tlvs.{Tlvs, is_cut}
use Rattle.frame_tlvs.proofs.Agrees.{walk-agrees}
use Rattle.frame_head.specs.Head.{pdu_of, opcode_of, flags_of, offset_of, start_of}
use Rattle.frame_reader.specs.Reader.{answer_of}
use Rattle.frame_message.specs.Good.{Headed, Good, is_bad, tlvs_of}
use Rattle.frame_message.specs.Message.{period_code, code_good, judged_of, unless_bad, message_of}
use Rattle.frame_message.specs.Told.{good_opcode}
use Rattle.frame_message.proofs.Goods.{good_frames}
use Rattle.frame_message.proofs.Numbers.{message-numbers}
use Rattle.frame_message.proofs.Shape.{framed, pdu-is, headed}
use Rattle.paper_edges.specs.Table.{IsRead}

-- an answer without a reason leaves the message, and one with a good code is its opcode's
unless_good : (a : Result Bool Bad) (m : Result ℕ NoMessage) → is_bad a ≡ false → unless_bad a m ≡ m
unless_good (Err b) m e = absurd (true≢false e)
unless_good (Ok false) m e = refl
unless_good (Ok true) m e = refl

judged : (op flags : ℕ) → code_good (rule_of op) (period_code flags) ≡ true → judged_of op flags ≡ Ok op
unfolding judged_of
judged op flags e = rw e

pub is_read : IsRead
unfolding rule_of choose message_of
is_read addresses fixed extra tlvs level flags ts a l m n run code =
    let p : List ℕ = first_octet level 1 ∷ 1 ∷ flags ∷ 74 ∷ (fixed ++ extra ++ tlvs) in
    let f = framed addresses p in
    let ep : pdu_of f ≡ p = pdu-is addresses p a in
    let lf : length (fixed ++ extra ++ tlvs) ≡ 74 + length tlvs = simp length-append (omega arith) in
    let lb : length (fixed ++ extra) ≡ 74 = simp length-append (omega arith) in
    let hf : Headed f = headed addresses (fixed ++ extra ++ tlvs) (first_octet level 1) 1 flags 74 a refl (omega arith) (omega arith) in
    let tf : tlvs_of f ≡ tlvs = ap (λ (x : List ℕ). drop (4 + offset_of x) x) ep ∙ drop_at (fixed ++ extra) tlvs 74 lb in
    let e = walk-agrees.ends (pdu_of f) (start_of (pdu_of f)) ts (subst (λ (x : List ℕ). Tlvs x ts) (sym tf) run) in
    let good : Good f = record { headed = hf; ends = ap is_cut e.1 } in
    let op : opcode_of (pdu_of f) ≡ 1 = ap opcode_of ep in
    let fl : flags_of (pdu_of f) ≡ flags = ap flags_of ep in
    let cg : code_good (rule_of (opcode_of (pdu_of f))) (period_code (flags_of (pdu_of f))) ≡ true =
    rw (op, fl, ne_eqb (flags % 8) 0 code) in
    let one : good_opcode f ≡ 1 = message-numbers.opcode f good cg ∙ op in
    let kind = unless_good (answer_of f 0) _ ((good_frames.read f 0).1 good) ∙ judged _ _ cg in
    (kind ∙ ap Ok op, eq-eqb (good_opcode f) 1 one)
