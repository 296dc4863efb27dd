-- The walk and the grammar of TLVs agree, both ways: the statements of specs/Tlvs.antt. Assumes nothing.
use mathlib.Core.Path.{◌≡◌, refl, sym, ap, ◌∙◌, subst}
use mathlib.Core.List.{List, [], ◌∷◌, ◌++◌, append_assoc}
use mathlib.Core.Bool.{true, false}
use mathlib.Core.Logic.{⊎_elim}
use Prim.Native.Nat.{ℕ, zero, suc, ◌+◌, ◌^◌, ◌≤◌, ◌<◌}
use native.Mathlib.Numerals.{add-one}
use native.Mathlib.Omega.{arith}
use borrow.Author.Tests.{eqb-true, eqb-false, ltb-true, ltb-false}
use lib.Dec.{eqb, ltb}
use lib.ListN.{length, drop, get_or}
use lib.Seq.{drop-cons}
use Rattle.base_laws.specs.Lists.{part}
use Rattle.base_laws.proofs.Tests.{known}
use Rattle.base_laws.proofs.Parts.{drop-part, length_part}
use Rattle.base_octets.specs.Octets.{Octets}
use Rattle.base_numbers.specs.Numbers.{in_octets, big_endian}
use Rattle.base_octets.proofs.Octets.{part-octets}
use Rattle.base_numbers.proofs.Laws.{number-below, read_again}
use Rattle.frame_tlvs.specs.declared.Place.{Place}
use Rattle.frame_tlvs.specs.declared.Place.TheVariants.{End, Cut}
use Rattle.frame_tlvs.specs.Tlvs.{Tlvs, end, one, walk_from, WalkAgrees}
use Rattle.frame_tlvs.proofs.Steps.{length_at, past, cut, next}
use Rattle.frame_tlvs.proofs.WalkedOver.{finds, ends}

-- ── where the walk ends, a run of TLVs stands ──

-- no place is both cut and ended
apart : {x : Place} {p q : ℕ} → x ≡ Cut p → x ≡ End q → ⊥
apart e f = let z : ◌≡◌ {A = ℕ} 0 1 = cc in omega arith

module _ (p : List ℕ) (octets : Octets p) where
  -- a TLV that is all there, as the grammar has it
  shape : (at : ℕ) → at + 3 + length_at at p ≤ length p
      → (length (part (at + 3) (length_at at p) p) < 65536)
      × (drop at p ≡ get_or p at 0 ∷ (in_octets big_endian 2 (length (part (at + 3) (length_at at p) p)) ++ part (at + 3)
      (length_at at p) p ++ drop (at + 3 + length_at at p) p))
  shape at h =
      let n = length_at at p in
      let v = part (at + 3) n p in
      let two : length (part (at + 1) 2 p) ≡ 2 = length_part (at + 1) 2 p (omega arith) in
      let small : n < 256 ^ 2 = rw two at (number-below big_endian (part (at + 1) 2 p) (part-octets (at + 1) 2 p octets)) in
      let long : length v ≡ n = length_part (at + 3) n p h in
      let size : part (at + 1) 2 p ≡ in_octets big_endian 2 (length v) =
      sym (read_again big_endian 2 (at + 1) p (omega arith) octets) ∙ ap (in_octets big_endian 2) (sym long) in
      let e : at + 1 + 2 ≡ at + 3 = omega arith in
      let behind : drop (at + 1) p ≡ in_octets big_endian 2 (length v) ++ v ++ drop (at + 3 + n) p =
      drop-part (at + 1) 2 p
      ∙ ap (λ (k : ℕ). part (at + 1) 2 p ++ drop k p) e
      ∙ ap (λ (l : List ℕ). part (at + 1) 2 p ++ l) (drop-part (at + 3) n p)
      ∙ sym (append_assoc (part (at + 1) 2 p) v (drop (at + 3 + n) p))
      ∙ ap (λ (l : List ℕ). l ++ v ++ drop (at + 3 + n) p) size in (
        omega arith,
        drop-cons p at 0 (omega arith) ∙ ap (λ (k : ℕ). get_or p at 0 ∷ drop k p) (sym (add-one at))
            ∙ ap (λ (l : List ℕ). get_or p at 0 ∷ l) behind,
      )

  -- `left` bounds how far the walk can still go
  from : (left at e : ℕ) → length p ≤ at + left → walk_from 0 at p ≡ End e → (ts : List (ℕ × List ℕ)) × Tlvs (drop at p) ts
  from zero at e h w = absurd (apart (past 0 at p (omega arith)) w)
  from (suc left) at e h w =
      ⊎_elim
      (λ (t : ltb at (length p) ≡ true).
      let i : at < length p = ltb-true at (length p) t in
      ⊎_elim
      (λ (z : eqb (get_or p at 0) 0 ≡ true).
      let d : 0 ∷ drop (suc at) p ≡ drop at p = ap (λ (k : ℕ). k ∷ drop (suc at) p) (sym (eqb-true (get_or p at 0) 0 z))
      ∙ sym (drop-cons p at 0 i) in
      ([], subst (λ (xs : List ℕ). Tlvs xs []) d end))
      (λ (z : eqb (get_or p at 0) 0 ≡ false).
      let nz : get_or p at 0 ≡ 0 → ⊥ = eqb-false (get_or p at 0) 0 z in
      let n : ℕ = length_at at p in
      ⊎_elim
      (λ (c : ltb (length p) (at + 3 + n) ≡ true). absurd (apart (cut 0 at p i nz (ltb-true (length p) (at + 3 + n) c)) w))
      (λ (c : ltb (length p) (at + 3 + n) ≡ false).
      let f : at + 3 + n ≤ length p = ltb-false (length p) (at + 3 + n) c in
      let r = from left (at + 3 + n) e (omega arith) (sym (next 0 at p i nz f nz) ∙ w) in
      let v = part (at + 3) n p in
      let g = shape at f in
      ((get_or p at 0, v) ∷ r.0, subst (λ (xs : List ℕ). Tlvs xs ((get_or p at 0, v) ∷ r.0)) (sym g.1) (one nz g.0 r.1)))
      (known (ltb (length p) (at + 3 + n))))
      (known (eqb (get_or p at 0) 0)))
      (λ (f : ltb at (length p) ≡ false). absurd (apart (past 0 at p (ltb-false at (length p) f)) w))
      (known (ltb at (length p)))

  stands : (at e : ℕ) → walk_from 0 at p ≡ End e → (ts : List (ℕ × List ℕ)) × Tlvs (drop at p) ts
  stands at e w = from (length p) at e (omega arith) w

pub walk-agrees : WalkAgrees
walk-agrees = record {
  finds = λ kind p at ts t. finds kind t p at refl;
  stands = λ p at e o w. stands p o at e w;
  ends = λ p at ts t. ends t p at refl;
}
