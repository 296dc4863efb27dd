-- The statement of specs/Alike.antt. Assumes nothing.
use Prim.Native.Nat.{ℕ, zero, suc, ◌+◌, ◌-◌, ◌≤◌}
use mathlib.Core.Path.{◌≡◌, refl, sym, ap, ap₂, ◌∙◌}
use mathlib.Core.Bool.{true, false}
use mathlib.Core.List.{List, [], ◌∷◌}
use mathlib.Core.Logic.{⊎_elim}
use native.Mathlib.Omega.{arith}
use lib.Dec.{eqb, ltb}
use lib.ListN.{length, drop, length-drop}
use Rattle.base_laws.specs.Tests.{choose}
use Rattle.base_laws.specs.Lists.{part}
use Rattle.base_laws.proofs.Tests.{known}
use Rattle.base_laws.proofs.Parts.{part-drop}
use Rattle.frame_reader_answer.specs.declared.Bad.{Bad}
use Rattle.frame_tlvs.specs.declared.Place.{Place}
use Rattle.frame_tlvs.specs.declared.Place.TheVariants.{End, Found, Cut}
use Rattle.frame_head.specs.Head.{pdu_of, start_of}
use Rattle.std.specs.Prelude.{Ok}
use Rattle.frame_tlvs.specs.Tlvs.{length_of, walk, walk_from}
use Rattle.frame_seek.specs.Seek.{whole, wanted, in_frame}
use Rattle.frame_reader.specs.Reader.{part_of, value_of, place_at, place_of, answer_at, answer_of}
use Rattle.frame_reader.specs.Alike.{Alike, ReadAlike}
use Rattle.frame_seek.proofs.Chain.{chained, through}

module _ (f g : List ℕ) (a : Alike f g) where
  pdu-long : length (pdu_of f) ≡ length (pdu_of g)
  pdu-long = length-drop 14 f ∙ ap (λ (n : ℕ). n - 14) a.long ∙ sym (length-drop 14 g)

  start : start_of (pdu_of f) ≡ start_of (pdu_of g)
  start = ap (λ (n : ℕ). 4 + n) a.offset

  walked : (kind : ℕ) → walk_from kind (start_of (pdu_of f)) (pdu_of f) ≡ walk_from kind (start_of (pdu_of g)) (pdu_of g)
  walked kind = ap₂ (λ (xs : List ℕ) (n : ℕ). walk kind 0 xs n) a.tlvs start

-- a value that the walk finds stands behind the place where it began
beyond : (kind left : ℕ) (xs : List ℕ) (at s l : ℕ) → walk kind left xs at ≡ Found s l → at ≤ s
unfolding walk
beyond kind left [] at s l e = absurd (let z : ◌≡◌ {A = ℕ} 0 1 = cc in omega arith)
beyond kind (suc left) (x ∷ xs) at s l e = omega (arith, beyond kind left xs (at + 1) s l e)
beyond kind zero (t ∷ xs) at s l e =
    ⊎_elim
    (λ (a : eqb t 0 ≡ true). absurd (let f = rw a at e in let z : ◌≡◌ {A = ℕ} 0 1 = cc in omega arith))
    (λ (a : eqb t 0 ≡ false).
    ⊎_elim
    (λ (b : ltb (length xs) (2 + length_of xs) ≡ true). absurd (let f = rw (a, b) at e in let z : ◌≡◌ {A = ℕ} 0 1 = cc in omega arith))
    (λ (b : ltb (length xs) (2 + length_of xs) ≡ false).
    ⊎_elim
    (λ (c : eqb t kind ≡ true). let f = rw (a, b, c) at e in let g : at + 3 ≡ s = cc in omega arith)
    (λ (c : eqb t kind ≡ false). let f = rw (a, b, c) at e in omega (arith, beyond kind (2 + length_of xs) xs (at + 1) s l f))
    (known (eqb t kind)))
    (known (ltb (length xs) (2 + length_of xs))))
    (known (eqb t 0))

module _ (f g : List ℕ) (a : Alike f g) where
  -- both chains decide alike where the last words agree
  chained-alike : {A : Type 0} (bad : Bad → A) (x y : A) → x ≡ y → chained bad f x ≡ chained bad g y
  unfolding chained choose
  chained-alike bad x y e = rw (a.long, a.ether, pdu-long f g a, a.opcode, a.offset, e)

  -- a part that begins at the TLVs or behind them is the same
  same-part : (s l : ℕ) → start_of (pdu_of f) ≤ s → part (14 + s) l f ≡ part (14 + s) l g
  same-part s l h =
      let p = pdu_of f in
      let q = pdu_of g in
      let d = s - start_of p in
      let m : start_of p + d ≡ s = omega (arith, h) in
      let n : start_of q + d ≡ s = ap (λ (k : ℕ). k + d) (sym (start f g a)) ∙ m in
      let u : part s l p ≡ part s l q =
      ap (λ (k : ℕ). part k l p) (sym m) ∙ sym (part-drop (start_of p) d l p) ∙ ap (part d l) a.tlvs ∙ part-drop (start_of q) d l q
      ∙ ap (λ (k : ℕ). part k l q) n in
      sym (part-drop 14 s l f) ∙ u ∙ part-drop 14 s l g

  wanted-alike : (kind : ℕ) (w : Place) → walk_from kind (start_of (pdu_of f)) (pdu_of f) ≡ w
      → part_of f (in_frame (Ok (wanted w))) ≡ part_of g (in_frame (Ok (wanted w)))
  wanted-alike kind (Found s l) e = same-part s l (beyond kind 0 (drop (start_of (pdu_of f)) (pdu_of f)) (start_of (pdu_of f)) s l e)
  wanted-alike kind (End at) e = refl
  wanted-alike kind (Cut at) e = refl

  whole-alike : (kind : ℕ) (ending w : Place) → walk_from kind (start_of (pdu_of f)) (pdu_of f) ≡ w
      → part_of f (in_frame (whole ending w)) ≡ part_of g (in_frame (whole ending w))
  whole-alike kind (Cut at) w e = refl
  whole-alike kind (End at) w e = wanted-alike kind w e
  whole-alike kind (Found s l) w e = wanted-alike kind w e

  answers : (kind : ℕ) → answer_of f kind ≡ answer_of g kind
  unfolding answer_of
  answers kind =
      through answer_at f kind
      ∙ chained-alike _ _ _ (ap₂ (λ (x y : Place). answer_at (in_frame (whole x y))) (walked f g a 0) (walked f g a kind))
      ∙ sym (through answer_at g kind)

  places : (p : ℕ × ℕ) (kind : ℕ) → place_of p f kind ≡ place_of p g kind
  unfolding place_of
  places p kind =
      through (place_at p) f kind
      ∙ chained-alike _ _ _ (ap₂ (λ (x y : Place). place_at p (in_frame (whole x y))) (walked f g a 0) (walked f g a kind))
      ∙ sym (through (place_at p) g kind)

  values : (kind : ℕ) → value_of f kind ≡ value_of g kind
  unfolding value_of
  values kind =
      through (part_of f) f kind
      ∙ chained-alike (λ b. []) _ _ (whole-alike kind (walk_from 0 (start_of (pdu_of f)) (pdu_of f))
      (walk_from kind (start_of (pdu_of f)) (pdu_of f)) refl
      ∙ ap₂ (λ (x y : Place). part_of g (in_frame (whole x y))) (walked f g a 0) (walked f g a kind))
      ∙ sym (through (part_of g) g kind)

pub read_alike : ReadAlike
read_alike =
    record {
      answers = λ f g a kind. answers f g a kind;
      values = λ f g a kind. values f g a kind;
      places = λ f g a p kind. places f g a p kind;
    }
