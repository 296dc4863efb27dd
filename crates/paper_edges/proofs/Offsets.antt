-- The rows on a CCM's offset: four octets more before the TLVs change nothing, one less is D4. Assumes nothing.
use Prim.Native.Nat.{ℕ, ◌+◌, ◌/◌, ◌%◌, ◌≤◌}
use mathlib.Core.Path.{◌≡◌, refl, sym, ap, ap₂, ◌∙◌, subst}
use mathlib.Core.Bool.{Bool, cond}
use mathlib.Core.List.{List, [], ◌∷◌, ◌++◌, append_assoc}
use native.Mathlib.Omega.{arith}
use lib.ListN.{length, drop, length-append}
use lib.Seq.{drop_at}
use lib.Dec.{eqb}
use borrow.Author.Tests.{le-leb, eq-eqb, le-ltb}
use Rattle.base_laws.specs.Tests.{choose}
use Rattle.base_laws.specs.Lists.{part}
use Rattle.base_laws.proofs.Apart.{part-front}
use Rattle.base_laws.proofs.Parts.{part-behind}
use Rattle.base_bits.specs.Fields.{first_octet, mep_id}
use Rattle.base_numbers.specs.Numbers.{number, big_endian}
use Rattle.frame_opcodes.specs.Opcodes.{rule_of}
use Rattle.frame_reader_answer.specs.declared.TlvTold.{TlvTold}
use Rattle.frame_head.specs.Head.{ether_type_of, pdu_of, opcode_of, flags_of, offset_of}
use Rattle.frame_reader.specs.Reader.{answer_of}
use Rattle.frame_reader.specs.Numbers as Reader
use Rattle.frame_reader_answer.specs.Told as Reasons
use Rattle.frame_reader.proofs.Numbers.{agree}
use Rattle.frame_message.specs.Good.{Headed, tlvs_of}
use Rattle.frame_message.specs.Message.{judged_of, unless_bad, message_of}
use Rattle.frame_message.specs.Told.{behind, good_opcode}
use Rattle.frame_message.proofs.Goods.{good_frames}
use Rattle.frame_message.proofs.Shape.{framed, pdu-is, ether-is, framed-long, headed}
use Rattle.frame_ccm.specs.declared.CcmFields.{CcmFields}
use Rattle.frame_ccm.specs.Ccm.{ccm_in, no_ccm, ccm_of, meg_in, meg_of}
use Rattle.paper_edges.specs.Table.{FourMore, OneLess}

-- a CCM's fields from its flags and its fixed part alone
record From (flags : ℕ) (fixed pdu : List ℕ) : Type 0 where
  flagged : flags_of pdu ≡ flags
  held : (at n : ℕ) → at + n ≤ 70 → part (4 + at) n pdu ≡ part at n fixed

from : (first op flags offset : ℕ) (fixed rest : List ℕ) → length fixed ≡ 70
    → From flags fixed (first ∷ op ∷ flags ∷ offset ∷ (fixed ++ rest))
from first op flags offset fixed rest l = record {
  flagged = refl;
  held = λ at n h. part-behind (first ∷ op ∷ flags ∷ offset ∷ []) (fixed ++ rest) at n ∙ part-front at n fixed rest (omega arith);
}

module _ {flags : ℕ} {fixed p q : List ℕ} (f : From flags fixed p) (g : From flags fixed q) where
  same : (at n : ℕ) → at + n ≤ 70 → part (4 + at) n p ≡ part (4 + at) n q
  same at n h = f.held at n h ∙ sym (g.held at n h)

  fields : ccm_in p ≡ ccm_in q
  fields =
      rw (
        same 0 4 (omega arith),
        same 4 2 (omega arith),
        same 54 4 (omega arith),
        same 58 4 (omega arith),
        same 62 4 (omega arith),
        f.flagged ∙ sym g.flagged,
      )

  meg : meg_in p ≡ meg_in q
  meg = same 6 48 (omega arith)

-- and they are what the flags and these 70 octets say
said : {flags : ℕ} {fixed p : List ℕ} → From flags fixed p → ccm_in p ≡ record {
  sequence = number big_endian (part 0 4 fixed);
  mep = mep_id (number big_endian (part 4 2 fixed));
  txfcf = number big_endian (part 54 4 fixed);
  rxfcb = number big_endian (part 58 4 fixed);
  txfcb = number big_endian (part 62 4 fixed);
  period = flags % 8;
  rdi = flags / 128;
}
said f =
    rw (
      f.held 0 4 (omega arith),
      f.held 4 2 (omega arith),
      f.held 54 4 (omega arith),
      f.held 58 4 (omega arith),
      f.held 62 4 (omega arith),
      f.flagged,
    )

-- two frames with the same opcode and flags and one answer of the reader are the same message
module _ (f g : List ℕ) (answered : answer_of f 0 ≡ answer_of g 0) (op : opcode_of (pdu_of f) ≡ opcode_of (pdu_of g))
    (flags : flags_of (pdu_of f) ≡ flags_of (pdu_of g)) where
  message : message_of f ≡ message_of g
  unfolding message_of
  message = ap₂ unless_bad answered (ap₂ judged_of op flags)

  opcode : good_opcode f ≡ good_opcode g
  opcode =
      let numbers : Reader.tlv_numbers f 0 ≡ Reader.tlv_numbers g 0 = sym (agree f 0) ∙ ap Reasons.tlv_told answered ∙ agree g 0 in
      ap (λ (t : TlvTold). (behind t (opcode_of (pdu_of f)) (flags_of (pdu_of f))).opcode) numbers
      ∙ ap₂ (λ (o b : ℕ). (behind (Reader.tlv_numbers g 0) o b).opcode) op flags

pub four-more : FourMore
unfolding rule_of choose ccm_of meg_of
four-more addresses fixed extra tlvs level first flags a l m n =
    let p : List ℕ = first_octet level 1 ∷ 1 ∷ flags ∷ 74 ∷ (fixed ++ extra ++ tlvs) in
    let q : List ℕ = first ∷ 1 ∷ flags ∷ 70 ∷ (fixed ++ tlvs) in
    let f = framed addresses p in
    let g = framed addresses q in
    let ep : pdu_of f ≡ p = pdu-is addresses p a in
    let eq : pdu_of g ≡ q = pdu-is addresses q a in
    let lf : length (fixed ++ extra ++ tlvs) ≡ 74 + length tlvs = simp length-append (omega arith) in
    let lg : length (fixed ++ tlvs) ≡ 70 + length tlvs = simp length-append (omega arith) in
    let lb : length (fixed ++ extra) ≡ 74 = simp length-append (omega arith) in
    let hf : Headed f = headed addresses (fixed ++ extra ++ tlvs) (first_octet level 1) 1 flags 74 a refl (omega arith) (omega arith) in
    let hg : Headed g = headed addresses (fixed ++ tlvs) first 1 flags 70 a refl (omega arith) (omega arith) in
    let tf : tlvs_of f ≡ tlvs = ap (λ (x : List ℕ). drop (4 + offset_of x) x) ep ∙ drop_at (fixed ++ extra) tlvs 74 lb in
    let tg : tlvs_of g ≡ tlvs = ap (λ (x : List ℕ). drop (4 + offset_of x) x) eq ∙ drop_at fixed tlvs 70 l in
    let answered = good_frames.answers f g hf hg (tf ∙ sym tg) in
    let op : opcode_of (pdu_of f) ≡ opcode_of (pdu_of g) = ap opcode_of ep ∙ sym (ap opcode_of eq) in
    let fl : flags_of (pdu_of f) ≡ flags_of (pdu_of g) = ap flags_of ep ∙ sym (ap flags_of eq) in
    let good = opcode f g (answered 0) op fl in
    let shape : first_octet level 1 ∷ 1 ∷ flags ∷ 74 ∷ (fixed ++ (extra ++ tlvs)) ≡ p =
    ap (λ (r : List ℕ). first_octet level 1 ∷ 1 ∷ flags ∷ 74 ∷ r) (sym (append_assoc fixed extra tlvs)) in
    let wf : From flags fixed p = subst (From flags fixed) shape (from (first_octet level 1) 1 flags 74 fixed (extra ++ tlvs) l) in
    let wg : From flags fixed q = from first 1 flags 70 fixed tlvs l in (
      record {
        message = message f g (answered 0) op fl;
        fields = ap₂ (λ (o : ℕ) (x : CcmFields). cond (eqb o 1) x no_ccm) good (ap ccm_in ep ∙ fields wf wg ∙ sym (ap ccm_in eq));
        meg = ap₂ (λ (o : ℕ) (x : List ℕ). cond (eqb o 1) x []) good (ap meg_in ep ∙ meg wf wg ∙ sym (ap meg_in eq));
        answers = answered;
        values = good_frames.values f g hf hg (tf ∙ sym tg);
      },
      record {
        fields = λ h. ap (λ (t : Bool). cond t (ccm_in (pdu_of f)) no_ccm) h ∙ ap ccm_in ep ∙ said wf;
        meg = λ h. ap (λ (t : Bool). cond t (meg_in (pdu_of f)) []) h ∙ ap meg_in ep ∙ wf.held 6 48 (omega arith);
      },
    )

pub one_less : OneLess
unfolding rule_of choose Reader.tlv_numbers
one_less addresses rest first flags kind a n =
    let p : List ℕ = first ∷ 1 ∷ flags ∷ 69 ∷ rest in
    let f = framed addresses p in
    let l : length f ≡ 14 + length p = framed-long addresses p a in
    rw (
      le-leb 14 (length f) (omega (arith, l)),
      le-leb (length f) 1514 (omega (arith, l)),
      eq-eqb (ether_type_of f) 0x8902 (ether-is addresses p a),
      pdu-is addresses p a,
      le-ltb (length p) 4 (omega arith),
    )
