-- A frame is good exactly where none of the reader's tests fails. Assumes nothing.
use Prim.Native.Nat.{ℕ, ◌+◌, ◌≤◌, ◌<◌}
use mathlib.Core.Path.{◌≡◌, refl, sym, ap, ◌∙◌}
use mathlib.Core.Bool.{Bool, true, false, cond, not, false≢true}
use mathlib.Core.List.{List}
use mathlib.Core.Logic.{⊎_elim}
use native.Mathlib.Omega.{arith}
use lib.Dec.{ltb, leb}
use lib.ListN.{length}
use borrow.Author.Tests.{not-false, le-leb, leb-true, eq-eqb, eqb-true, le-ltb, ltb-true, ltb-false}
use Rattle.std.specs.Prelude.{Result, Ok, Err}
use Rattle.frame_message_answer.specs.declared.NoMessage.{NoMessage}
use Rattle.base_laws.specs.Tests.{choose}
use Rattle.base_laws.proofs.Tests.{known as if-known, both_true}
use Rattle.frame_opcodes.specs.Opcodes.{rule_of}
use Rattle.frame_reader_answer.specs.declared.Bad.{Bad}
use Rattle.frame_tlvs.specs.declared.Place.{Place}
use Rattle.frame_tlvs.specs.declared.Place.TheVariants.{End, Found, Cut}
use Rattle.frame_message.specs.Message.{unless_bad}
use Rattle.frame_head.specs.Head.{ether_type_of, is_oam, length_good, pdu_of, opcode_of, offset_of, start_of}
use Rattle.frame_tlvs.specs.Tlvs.{walk_from, is_cut}
use Rattle.frame_seek.specs.Seek.{whole, in_frame}
use Rattle.frame_reader.specs.Reader.{answer_at, answer_of}
use Rattle.frame_seek.proofs.Chain.{chained, through}
use Rattle.frame_tlvs.proofs.Steps.{past}
use Rattle.frame_message.specs.Good.{Headed, Good, is_bad}

-- a search behind the reasons is bad exactly where the walk to the end is cut
cut_told : (ending w : Place) → is_bad (answer_at (in_frame (whole ending w))) ≡ is_cut ending
cut_told (Cut at) w = refl
cut_told (End at) (Found s l) = refl
cut_told (End at) (End e) = refl
cut_told (End at) (Cut e) = refl
cut_told (Found s l) (Found t m) = refl
cut_told (Found s l) (End e) = refl
cut_told (Found s l) (Cut e) = refl

-- the tests of the reader, one behind the other
bad-is : (f : List ℕ) (kind : ℕ) → is_bad (answer_of f kind) ≡ chained (λ b. true) f (is_cut (walk_from 0 (start_of (pdu_of f)) (pdu_of f)))
unfolding answer_of
bad-is f kind =
    through (λ s. is_bad (answer_at s)) f kind
    ∙ ap (chained (λ b. true) f) (cut_told (walk_from 0 (start_of (pdu_of f)) (pdu_of f)) (walk_from kind (start_of (pdu_of f)) (pdu_of f)))

-- neither a test nor what is behind it
neither : (test last : Bool) → cond test true last ≡ false → (test ≡ false) × (last ≡ false)
neither true last e = absurd (false≢true (sym e))
neither false last e = (refl, e)

module _ (f : List ℕ) (kind : ℕ) where
  pub to : is_bad (answer_of f kind) ≡ false → Good f
  unfolding chained choose
  to e =
      let p = pdu_of f in
      let a = neither (not (length_good f)) _ (sym (bad-is f kind) ∙ e) in
      let b = neither (not (is_oam f)) _ a.1 in
      let c = neither (ltb (length p) 4) _ b.1 in
      let d = neither (not (rule_of (opcode_of p)).known) _ c.1 in
      let o = neither (ltb (offset_of p) (rule_of (opcode_of p)).least) _ d.1 in
      let n = (both_true (leb 14 (length f)) (leb (length f) 1514)).0 (not-false (length_good f) a.0) in
      let before : Headed f = record {
        shortest = leb-true 14 (length f) n.0;
        longest = leb-true (length f) 1514 n.1;
        oam = eqb-true (ether_type_of f) 0x8902 (not-false (is_oam f) b.0);
        head = ltb-false (length p) 4 c.0;
        opcode = not-false (rule_of (opcode_of p)).known d.0;
        offset = ltb-false (offset_of p) (rule_of (opcode_of p)).least o.0;
      } in
      record { headed = before; ends = o.1 }

-- where nothing before the TLVs is wrong, the last word decides
pub last_word : {A : Type 0} (bad : Bad → A) (f : List ℕ) (x : A) → Headed f → chained bad f x ≡ x
unfolding chained choose
last_word bad f x h =
    rw (
      le-leb 14 (length f) h.shortest,
      le-leb (length f) 1514 h.longest,
      eq-eqb (ether_type_of f) 0x8902 h.oam,
      le-ltb (length (pdu_of f)) 4 h.head,
      h.opcode,
      le-ltb (offset_of (pdu_of f)) (rule_of (opcode_of (pdu_of f))).least h.offset,
    )

pub from : (f : List ℕ) (kind : ℕ) → Good f → is_bad (answer_of f kind) ≡ false
from f kind g = bad-is f kind ∙ last_word (λ b. true) f _ g.headed ∙ g.ends

-- where the walk is not cut, there is an octet at the place where it begins
pub begins : (at : ℕ) (p : List ℕ) → is_cut (walk_from 0 at p) ≡ false → at < length p
begins at p e =
    ⊎_elim
    (λ (t : ltb at (length p) ≡ true). ltb-true at (length p) t)
    (λ (t : ltb at (length p) ≡ false). absurd (false≢true (sym e ∙ ap is_cut (past 0 at p (ltb-false at (length p) t)))))
    (if-known (ltb at (length p)))

pub fixed : (f : List ℕ) → Good f → 4 + (rule_of (opcode_of (pdu_of f))).least < length (pdu_of f)
fixed f g = omega (arith, g.headed.offset, begins (start_of (pdu_of f)) (pdu_of f) g.ends)

-- what the reader lets through is told by what stands behind it
pub unless_good : (a : Result Bool Bad) (m : Result ℕ NoMessage) → is_bad a ≡ false → unless_bad a m ≡ m
unless_good (Err b) m e = absurd (false≢true (sym e))
unless_good (Ok false) m e = refl
unless_good (Ok true) m e = refl
