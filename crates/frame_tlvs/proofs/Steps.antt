-- What the walk over the TLVs does at a place of the PDU, case by case. Assumes nothing.
use mathlib.Core.Path.{◌≡◌, sym, ap, ◌∙◌}
use mathlib.Core.List.{List, [], ◌∷◌}
use mathlib.Core.Bool.{cond}
use Prim.Native.Nat.{ℕ, zero, suc, ◌+◌, ◌≤◌, ◌<◌}
use native.Mathlib.Nat.{add-zero, not-suc-le-zero}
use native.Mathlib.Numerals.{add-one}
use native.Mathlib.Omega.{arith}
use borrow.Author.Tests.{lt-ltb, le-ltb, eq-eqb, ne_eqb}
use lib.Dec.{ltb, eqb}
use lib.ListN.{length, drop, get_or, length-drop, drop_of_length-le}
use lib.Seq.{drop-cons, drop-drop}
use Rattle.base_laws.specs.Lists.{part}
use Rattle.base_laws.proofs.Parts.{part-drop}
use Rattle.base_numbers.specs.Numbers.{number, big_endian}
use Rattle.frame_tlvs.specs.declared.Place.TheVariants.{End, Found, Cut}
use Rattle.frame_tlvs.specs.Tlvs.{length_of, walk, walk_from}

-- the length octets behind the type at a place
abbrev pub length_at : ℕ → List ℕ → ℕ
length_at at p = number big_endian (part (at + 1) 2 p)

-- the rest of a TLV is passed over at once
pass : (kind k : ℕ) (xs : List ℕ) (at : ℕ) → k ≤ length xs → walk kind k xs at ≡ walk kind 0 (drop k xs) (at + k)
unfolding walk
pass kind zero xs at h = ap (λ (a : ℕ). walk kind 0 xs a) (sym (add-zero at))
pass kind (suc k) [] at h = absurd (not-suc-le-zero h)
pass kind (suc k) (x ∷ xs) at h =
    let e : at + 1 + k ≡ at + suc k = omega arith in
    pass kind k xs (at + 1) (omega arith) ∙ ap (λ (a : ℕ). walk kind 0 (drop k xs) a) e

-- past the last octet
pub past : (kind at : ℕ) (p : List ℕ) → length p ≤ at → walk_from kind at p ≡ Cut at
unfolding walk
past kind at p h = ap (λ (l : List ℕ). walk kind 0 l at) (drop_of_length-le p h)

module _ (kind at : ℕ) (p : List ℕ) (inside : at < length p) where
  -- the walk at an octet, with its length read in the PDU
  here : walk_from kind at p
      ≡ cond (eqb (get_or p at 0) 0) (End at)
      (cond (ltb (length (drop (suc at) p)) (2 + length_at at p)) (Cut at)
      (cond (eqb (get_or p at 0) kind) (Found (at + 3) (length_at at p)) (walk kind (2 + length_at at p) (drop (suc at) p) (at + 1))))
  unfolding walk
  here =
      let e : length_of (drop (suc at) p) ≡ length_at at p =
      ap (number big_endian) (ap (λ (k : ℕ). part 0 2 (drop k p)) (sym (add-one at)) ∙ part-drop (at + 1) 0 2 p
      ∙ ap (λ (k : ℕ). part k 2 p) (add-zero (at + 1))) in
      ap (λ (l : List ℕ). walk kind 0 l at) (drop-cons p at 0 inside)
      ∙ ap (λ (n : ℕ). cond (eqb (get_or p at 0) 0) (End at)
      (cond (ltb (length (drop (suc at) p)) (2 + n)) (Cut at)
      (cond (eqb (get_or p at 0) kind) (Found (at + 3) n) (walk kind (2 + n) (drop (suc at) p) (at + 1))))) e

  pub ended : get_or p at 0 ≡ 0 → walk_from kind at p ≡ End at
  ended z = here ∙ rw (eq-eqb (get_or p at 0) 0 z)

  module _ (some : get_or p at 0 ≡ 0 → ⊥) where
    pub cut : length p < at + 3 + length_at at p → walk_from kind at p ≡ Cut at
    cut l =
        let d : length (drop (suc at) p) < 2 + length_at at p = rw length-drop (omega arith) in
        here ∙ rw (ne_eqb (get_or p at 0) 0 some, lt-ltb _ _ d)

    module _ (whole : at + 3 + length_at at p ≤ length p) where
      long : 2 + length_at at p ≤ length (drop (suc at) p)
      long = rw length-drop (omega arith)

      pub found : get_or p at 0 ≡ kind → walk_from kind at p ≡ Found (at + 3) (length_at at p)
      found e = here ∙ rw (ne_eqb (get_or p at 0) 0 some, le-ltb _ _ long, eq-eqb (get_or p at 0) kind e)

      pub next : (get_or p at 0 ≡ kind → ⊥) → walk_from kind at p ≡ walk_from kind (at + 3 + length_at at p) p
      next e =
          let n : ℕ = length_at at p in
          let i : suc at + (2 + n) ≡ at + 3 + n = omega arith in
          let j : at + 1 + (2 + n) ≡ at + 3 + n = omega arith in
          here
          ∙ rw (ne_eqb (get_or p at 0) 0 some, le-ltb _ _ long, ne_eqb (get_or p at 0) kind e)
          (pass kind (2 + n) (drop (suc at) p) (at + 1) long
          ∙ ap (λ (l : List ℕ). walk kind 0 l (at + 1 + (2 + n))) (drop-drop (2 + n) (suc at) p ∙ ap (λ (k : ℕ). drop k p) i)
          ∙ ap (λ (k : ℕ). walk kind 0 (drop (at + 3 + n) p) k) j)
