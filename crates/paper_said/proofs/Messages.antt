-- Which message a frame is, from the paper's conditions on its octets. Assumes nothing.
use Prim.Native.Nat.{ℕ, ◌+◌, ◌≤◌, ◌<◌}
use mathlib.Core.Path.{◌≡◌, refl, sym, ap, ◌∙◌}
use mathlib.Core.Bool.{true, false, not, false≢true, true≢false}
use mathlib.Core.List.{List}
use mathlib.Core.Logic.{⊎_elim}
use native.Mathlib.Omega.{arith}
use lib.Seq.{get_or-drop}
use lib.ListN.{length, drop, length-drop}
use borrow.Author.Tests.{le-leb, eq-eqb}
use Rattle.std.specs.Prelude.{Err}
use Rattle.frame_message_answer.specs.declared.NoMessage.TheVariants.{Bad}
use Rattle.base_laws.proofs.Tests.{known as if-known, join}
use Rattle.base_octets.specs.Octets.{Octets}
use Rattle.frame_opcodes.specs.Opcodes.{rule_of}
use Rattle.frame_reader_answer.specs.declared.Bad.TheVariants.{Offset, CutOff}
use Rattle.frame_tlvs.specs.declared.Place.{Place}
use Rattle.frame_tlvs.specs.declared.Place.TheVariants as place
use Rattle.frame_head.specs.Head.{ether_type_of, pdu_of, opcode_of, offset_of, flags_of, start_of}
use Rattle.frame_tlvs.specs.Tlvs.{Tlvs, walk_from, is_cut}
use Rattle.frame_reader.specs.Numbers.{is_found}
use Rattle.frame_judge.proofs.Judged.{pdu-offset, pdu-tlvs}
use Rattle.frame_tlvs.proofs.Agrees.{walk-agrees}
use Rattle.frame_reader.proofs.Numbers.{not_found}
use Rattle.frame_message.specs.Good.{Headed}
use Rattle.frame_message.specs.Message.{judged_of, message_in, message_of}
use Rattle.frame_message.proofs.InPdu.{bad-head, cut_off as pdu-cut, let_through, frame-pdu}

-- the walk to the end stops at an end exactly where a run of TLVs stands
ended : (p : Place) → is_cut p ≡ false → is_found p ≡ false → (e : ℕ) × (p ≡ place.End e)
ended (place.Cut at) c f = absurd (false≢true (sym c))
ended (place.Found s l) c f = absurd (false≢true (sym f))
ended (place.End e) c f = (e, refl)

module _ (p : List ℕ) (at : ℕ) where
  pub run_ends : (ts : List (ℕ × List ℕ)) → Tlvs (drop at p) ts → is_cut (walk_from 0 at p) ≡ false
  run_ends ts t = let e = walk-agrees.ends p at ts t in ap is_cut e.1

  pub no-run_cuts : Octets p → ((ts : List (ℕ × List ℕ)) → Tlvs (drop at p) ts → ⊥) → is_cut (walk_from 0 at p) ≡ true
  no-run_cuts o n =
      ⊎_elim
      (λ (t : is_cut (walk_from 0 at p) ≡ true). t)
      (λ (t : is_cut (walk_from 0 at p) ≡ false).
      let e = ended (walk_from 0 at p) t (not_found 0 (drop at p) at) in
      let s = walk-agrees.stands p at e.0 o e.1 in
      absurd (n s.0 s.1))
      (if-known (is_cut (walk_from 0 at p)))

  -- where there is not no run, the walk is not cut
  pub uncut : (((ts : List (ℕ × List ℕ)) → Tlvs (drop at p) ts → ⊥) → ⊥) → is_cut (walk_from 0 at p) ≡ false
  uncut n =
      ⊎_elim
      (λ (t : is_cut (walk_from 0 at p) ≡ true). absurd (n (λ ts r. true≢false (sym t ∙ run_ends ts r))))
      (λ (t : is_cut (walk_from 0 at p) ≡ false). t)
      (if-known (is_cut (walk_from 0 at p)))

  -- an end that is found leaves a run
  pub ends-run : Octets p → is_cut (walk_from 0 at p) ≡ false → (ts : List (ℕ × List ℕ)) × Tlvs (drop at p) ts
  ends-run o t = let e = ended (walk_from 0 at p) t (not_found 0 (drop at p) at) in walk-agrees.stands p at e.0 o e.1

-- octets behind a head are octets
pub behind : (f : List ℕ) (n : ℕ) → Octets f → Octets (drop n f)
behind f n o i = rw (get_or-drop n f i 0) (o (n + i))

module _ (f : List ℕ) (long : 14 ≤ length f) (most : length f ≤ 1514) (oam : ether_type_of f ≡ 0x8902) (head : 18 ≤ length f)
    (k : (rule_of (opcode_of (pdu_of f))).known ≡ true) where
  four : 4 ≤ length (pdu_of f)
  four = rw (length-drop 14 f) (omega arith)

  -- its PDU tells which message it is
  by-pdu : message_of f ≡ message_in (pdu_of f)
  by-pdu = frame-pdu f (join _ _ (le-leb 14 (length f) long) (le-leb (length f) 1514 most)) (eq-eqb (ether_type_of f) 0x8902 oam)

  pub offset-bad : offset_of (pdu_of f) < (rule_of (opcode_of (pdu_of f))).least → message_of f ≡ Err (Bad Offset)
  offset-bad h = by-pdu ∙ bad-head (pdu_of f) Offset (pdu-offset (pdu_of f) four k h)

  module _ (h : (rule_of (opcode_of (pdu_of f))).least ≤ offset_of (pdu_of f)) where
    pub headed : Headed f
    headed = record { shortest = long; longest = most; oam = oam; head = four; opcode = k; offset = h }

    pub cut_off : is_cut (walk_from 0 (start_of (pdu_of f)) (pdu_of f)) ≡ true → message_of f ≡ Err (Bad CutOff)
    cut_off c = by-pdu ∙ pdu-cut (pdu_of f) (start_of (pdu_of f)) (pdu-tlvs (pdu_of f) four k h) (ap not c)

    pub judged : is_cut (walk_from 0 (start_of (pdu_of f)) (pdu_of f)) ≡ false → message_of f ≡ judged_of (opcode_of (pdu_of f)) (flags_of (pdu_of f))
    judged c = by-pdu ∙ let_through (pdu_of f) (start_of (pdu_of f)) (pdu-tlvs (pdu_of f) four k h) (ap not c)
