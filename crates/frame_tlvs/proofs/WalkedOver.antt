-- A run of TLVs, as the grammar has it, is walked over to its end. Assumes nothing.
use mathlib.Core.Path.{◌≡◌, refl, sym, ap, ◌∙◌}
use mathlib.Core.List.{List, [], ◌∷◌, ◌++◌, append_assoc}
use mathlib.Core.Option.{some}
use mathlib.Core.Bool.{true, false}
use mathlib.Core.Logic.{⊎_elim}
use Prim.Native.Nat.{ℕ, suc, ◌+◌, ◌-◌, ◌≤◌, ◌<◌}
use native.Mathlib.Nat.{add-zero}
use native.Mathlib.Omega.{arith}
use borrow.Author.Tests.{eqb-true, eqb-false}
use lib.Dec.{eqb}
use lib.ListN.{length, drop, get_or, length-drop, length-append}
use lib.Seq.{get_or-drop, drop-drop, drop_at}
use Rattle.base_laws.specs.Lists.{part}
use Rattle.base_laws.proofs.Tests.{known}
use Rattle.base_laws.proofs.Parts.{part-drop, part-here}
use Rattle.base_numbers.specs.Numbers.{number, in_octets, big_endian}
use Rattle.base_numbers.proofs.Laws.{length-octets, number-here}
use Rattle.frame_tlvs.specs.declared.Place.TheVariants.{End}
use Rattle.frame_tlvs.specs.Tlvs.{Tlvs, end, one, first_of, walk_from, value_at}
use Rattle.frame_tlvs.proofs.Steps.{length_at, ended, found, next}

-- the first octet of what stands from a place on
type_is : (p : List ℕ) (at t : ℕ) (xs : List ℕ) → drop at p ≡ t ∷ xs → get_or p at 0 ≡ t
type_is p at t xs h = ap (λ (k : ℕ). get_or p k 0) (sym (add-zero at)) ∙ sym (get_or-drop at p 0 0) ∙ ap (λ (l : List ℕ). get_or l 0 0) h

inside : (p : List ℕ) (at t : ℕ) (xs : List ℕ) → drop at p ≡ t ∷ xs → at < length p
inside p at t xs h =
    let l : length p - at ≡ suc (length xs) = sym (length-drop at p) ∙ ap length h in
    omega arith

-- where the octets from `at` on are a TLV and then others
module _ (p : List ℕ) (at t : ℕ) (v rest : List ℕ) (small : length v < 65536)
    (h : drop at p ≡ t ∷ (in_octets big_endian 2 (length v) ++ v ++ rest)) where
  fits : at + 3 + length v ≤ length p
  fits =
      let e : length p - at ≡ suc (length (in_octets big_endian 2 (length v)) + length v + length rest) =
      sym (length-drop at p) ∙ ap length h ∙ ap suc
      (length-append (in_octets big_endian 2 (length v) ++ v) rest
      ∙ ap (λ (n : ℕ). n + length rest) (length-append (in_octets big_endian 2 (length v)) v)) in
      omega (arith, length-octets big_endian 2 (length v))

  behind : drop (at + 1) p ≡ in_octets big_endian 2 (length v) ++ (v ++ rest)
  behind = sym (drop-drop 1 at p) ∙ ap (drop 1) h ∙ append_assoc (in_octets big_endian 2 (length v)) v rest

  length_is : length_at at p ≡ length v
  length_is =
      ap (number big_endian) (ap (λ (k : ℕ). part k 2 p) (sym (add-zero (at + 1))) ∙ sym (part-drop (at + 1) 0 2 p) ∙ ap (part 0 2) behind)
      ∙ number-here big_endian 2 (length v) [] (v ++ rest) 0 refl small

  value-and-rest : drop (at + 3) p ≡ v ++ rest
  value-and-rest =
      let e : at + 1 + 2 ≡ at + 3 = omega arith in
      ap (λ (k : ℕ). drop k p) (sym e)
      ∙ sym (drop-drop 2 (at + 1) p)
      ∙ ap (drop 2) behind
      ∙ drop_at (in_octets big_endian 2 (length v)) (v ++ rest) 2 (length-octets big_endian 2 (length v))

  value-is : part (at + 3) (length v) p ≡ v
  value-is =
      ap (λ (k : ℕ). part k (length v) p) (sym (add-zero (at + 3)))
      ∙ sym (part-drop (at + 3) 0 (length v) p)
      ∙ ap (part 0 (length v)) value-and-rest
      ∙ part-here [] v rest 0 (length v) refl refl

  rest-is : drop (at + 3 + length v) p ≡ rest
  rest-is = sym (drop-drop (length v) (at + 3) p) ∙ ap (drop (length v)) value-and-rest ∙ drop_at v rest (length v) refl

pub finds : (kind : ℕ) {xs : List ℕ} {ts : List (ℕ × List ℕ)} → Tlvs xs ts → (p : List ℕ) (at : ℕ) → drop at p ≡ xs
    → value_at p (walk_from kind at p) ≡ first_of kind ts
finds kind (end {padding}) p at h = ap (value_at p) (ended kind at p (inside p at 0 padding h) (type_is p at 0 padding h))
finds kind (one {t} {v} {rest} {ts} nz small d) p at h =
    let f = fits p at t v rest small h in
    let k = type_is p at t (in_octets big_endian 2 (length v) ++ v ++ rest) h in
    let n = length_is p at t v rest small h in
    ⊎_elim
    (λ (e : eqb t kind ≡ true).
    ap (value_at p) (found kind at p (omega arith) (λ z. nz (sym k ∙ z)) (omega arith) (k ∙ eqb-true t kind e))
    ∙ ap some (ap (λ (m : ℕ). part (at + 3) m p) n ∙ value-is p at t v rest small h)
    ∙ sym (rw e))
    (λ (e : eqb t kind ≡ false).
    ap (value_at p) (next kind at p (omega arith) (λ z. nz (sym k ∙ z)) (omega arith) (λ z. eqb-false t kind e (sym k ∙ z))
    ∙ ap (λ (m : ℕ). walk_from kind (at + 3 + m) p) n)
    ∙ finds kind d p (at + 3 + length v) (rest-is p at t v rest small h)
    ∙ sym (rw e))
    (known (eqb t kind))

pub ends : {xs : List ℕ} {ts : List (ℕ × List ℕ)} → Tlvs xs ts → (p : List ℕ) (at : ℕ) → drop at p ≡ xs → (e : ℕ)
    × (walk_from 0 at p ≡ End e)
ends (end {padding}) p at h = (at, ended 0 at p (inside p at 0 padding h) (type_is p at 0 padding h))
ends (one {t} {v} {rest} {ts} nz small d) p at h =
    let f = fits p at t v rest small h in
    let k = type_is p at t (in_octets big_endian 2 (length v) ++ v ++ rest) h in
    let n = length_is p at t v rest small h in
    let r = ends d p (at + 3 + length v) (rest-is p at t v rest small h) in
    let nz-here : get_or p at 0 ≡ 0 → ⊥ = λ z. nz (sym k ∙ z) in
    (r.0, next 0 at p (omega arith) nz-here (omega arith) nz-here ∙ ap (λ (m : ℕ). walk_from 0 (at + 3 + m) p) n ∙ r.1)
