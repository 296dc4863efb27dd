-- What the reader says of a good frame hangs on its TLVs alone: the statement of specs/Good.antt. Assumes nothing.
use Prim.Native.Nat.{ℕ, zero, suc, ◌+◌}
use mathlib.Core.Path.{◌≡◌, refl, sym, ap, ap₂, ◌∙◌}
use mathlib.Core.Bool.{true, false}
use mathlib.Core.List.{List, [], ◌∷◌}
use mathlib.Core.Logic.{⊎_elim}
use native.Mathlib.Nat.{add-zero, add_assoc}
use lib.Dec.{ltb, eqb}
use lib.ListN.{length, drop}
use lib.Seq.{drop-drop}
use Rattle.std.specs.Prelude.{Result, Option}
use Rattle.frame_seek.specs.declared.Span.{Span}
use Rattle.frame_reader_answer.specs.declared.Bad.{Bad}
use Rattle.base_laws.specs.Lists.{part}
use Rattle.base_laws.proofs.Parts.{part-drop}
use Rattle.base_laws.proofs.Tests.{known as if-known}
use Rattle.frame_tlvs.specs.declared.Place.{Place}
use Rattle.frame_tlvs.specs.declared.Place.TheVariants.{End, Found, Cut}
use Rattle.frame_head.specs.Head.{head_length, pdu_of, start_of}
use Rattle.frame_tlvs.specs.Tlvs.{length_of, walk, walk_from}
use Rattle.frame_seek.specs.Seek.{whole, in_frame}
use Rattle.frame_reader.specs.Reader.{answer_at, answer_of, part_of, value_of}
use Rattle.frame_seek.proofs.Chain.{through}
use Rattle.frame_message.specs.Good.{Headed, tlvs_of, GoodFrames}
use Rattle.frame_message.proofs.GoodTests.{to, last_word, from, fixed}

-- a place that is k further on
shift : ℕ → Place → Place
shift k (Found s l) = Found (k + s) l
shift k (End at) = End (k + at)
shift k (Cut at) = Cut (k + at)

-- a walk over the same octets from a place k further on stops k further on
shifted : (kind left k at : ℕ) (xs : List ℕ) → walk kind left xs (k + at) ≡ shift k (walk kind left xs at)
unfolding walk shift
shifted kind left k at [] = refl
shifted kind (suc left) k at (x ∷ xs) = ap (walk kind left xs) (add_assoc k at 1) ∙ shifted kind left k (at + 1) xs
shifted kind zero k at (t ∷ xs) =
    ⊎_elim
    (λ (a : eqb t 0 ≡ true). rw a)
    (λ (a : eqb t 0 ≡ false).
    ⊎_elim
    (λ (b : ltb (length xs) (2 + length_of xs) ≡ true). rw (a, b))
    (λ (b : ltb (length xs) (2 + length_of xs) ≡ false).
    ⊎_elim
    (λ (c : eqb t kind ≡ true). rw (a, b, c) (ap (λ (n : ℕ). Found n (length_of xs)) (add_assoc k at 3)))
    (λ (c : eqb t kind ≡ false). rw (a, b, c) (ap (walk kind (2 + length_of xs) xs) (add_assoc k at 1)
    ∙ shifted kind (2 + length_of xs) k (at + 1) xs))
    (if-known (eqb t kind)))
    (if-known (ltb (length xs) (2 + length_of xs))))
    (if-known (eqb t 0))

-- so it stops as the walk from place 0 does, further on
from_zero : (kind at : ℕ) (p : List ℕ) → walk_from kind at p ≡ shift at (walk kind 0 (drop at p) 0)
from_zero kind at p = ap (walk kind 0 (drop at p)) (sym (add-zero at)) ∙ shifted kind 0 at 0 (drop at p)

-- what is answered does not hang on the place, and the value's octets are those behind it
answer_shifted : (k : ℕ) (ending w : Place) → answer_at (in_frame (whole (shift k ending) (shift k w))) ≡ answer_at (whole ending w)
unfolding shift
answer_shifted k (Cut at) w = refl
answer_shifted k (End at) (Found s l) = refl
answer_shifted k (End at) (End e) = refl
answer_shifted k (End at) (Cut e) = refl
answer_shifted k (Found s l) (Found t m) = refl
answer_shifted k (Found s l) (End e) = refl
answer_shifted k (Found s l) (Cut e) = refl

value_shifted : (f : List ℕ) (k : ℕ) (ending w : Place)
    → part_of f (in_frame (whole (shift k ending) (shift k w))) ≡ part_of (drop (head_length + k) f) (whole ending w)
unfolding shift
value_shifted f k (Cut at) w = refl
value_shifted f k (End at) (Found s l) = ap (λ (n : ℕ). part n l f) (sym (add_assoc 14 k s)) ∙ sym (part-drop (14 + k) s l f)
value_shifted f k (End at) (End e) = refl
value_shifted f k (End at) (Cut e) = refl
value_shifted f k (Found t m) (Found s l) = ap (λ (n : ℕ). part n l f) (sym (add_assoc 14 k s)) ∙ sym (part-drop (14 + k) s l f)
value_shifted f k (Found t m) (End e) = refl
value_shifted f k (Found t m) (Cut e) = refl

-- what the TLVs alone say
abbrev seen : ℕ → List ℕ → Result (Option Span) Bad
seen kind xs = whole (walk 0 0 xs 0) (walk kind 0 xs 0)

module _ (f : List ℕ) (h : Headed f) (kind : ℕ) where
  answered : answer_of f kind ≡ answer_at (seen kind (tlvs_of f))
  unfolding answer_of
  answered =
      let at = start_of (pdu_of f) in
      let p = pdu_of f in
      through answer_at f kind
      ∙ last_word _ f _ h
      ∙ ap₂ (λ (x y : Place). answer_at (in_frame (whole x y))) (from_zero 0 at p) (from_zero kind at p)
      ∙ answer_shifted at (walk 0 0 (tlvs_of f) 0) (walk kind 0 (tlvs_of f) 0)

  valued : value_of f kind ≡ part_of (tlvs_of f) (seen kind (tlvs_of f))
  unfolding value_of
  valued =
      let at = start_of (pdu_of f) in
      let p = pdu_of f in
      through (part_of f) f kind
      ∙ last_word (λ b. []) f _ h
      ∙ ap₂ (λ (x y : Place). part_of f (in_frame (whole x y))) (from_zero 0 at p) (from_zero kind at p)
      ∙ value_shifted f at (walk 0 0 (tlvs_of f) 0) (walk kind 0 (tlvs_of f) 0)
      ∙ ap (λ (l : List ℕ). part_of l (seen kind (tlvs_of f))) (sym (drop-drop at 14 f))

module _ (f g : List ℕ) (h : Headed f) (k : Headed g) (e : tlvs_of f ≡ tlvs_of g) (kind : ℕ) where
  pub answers : answer_of f kind ≡ answer_of g kind
  answers = answered f h kind ∙ ap (λ (l : List ℕ). answer_at (seen kind l)) e ∙ sym (answered g k kind)

  pub values : value_of f kind ≡ value_of g kind
  values = valued f h kind ∙ ap (λ (l : List ℕ). part_of l (seen kind l)) e ∙ sym (valued g k kind)

pub good_frames : GoodFrames
good_frames = record { read = λ f kind. (to f kind, from f kind); fixed = fixed; answers = answers; values = values }
