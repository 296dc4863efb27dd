-- Parts of a list that something is laid over: what stands apart is as it was, what stands within is what was laid. Assumes nothing.
use Prim.Native.Nat.{ℕ, ◌+◌, ◌-◌, ◌≤◌, ◌<◌}
use mathlib.Core.Path.{◌≡◌, sym, ap, ◌∙◌}
use mathlib.Core.List.{List, ◌++◌, append_assoc, append-nil}
use mathlib.Core.Logic.{inl, inr}
use native.Mathlib.Omega.{arith}
use lib.ListN.{length, take, drop, length-drop, drop_of_length-le}
use lib.Seq.{length-take-le, take-append-le, drop-append-le, get_or-drop, ext_get_or}
use Rattle.base_laws.specs.Lists.{part, laid}
use Rattle.base_laws.proofs.Parts.{length_part, get_d_part, part-drop, drop-part, part-behind}
use Rattle.base_laws.proofs.Overlaid.{length-laid, laid-others}

-- a part of the front is not changed by what stands behind it
pub part-front : {A : Type 0} (at n : ℕ) (p q : List A) → at + n ≤ length p → part at n (p ++ q) ≡ part at n p
unfolding part
part-front at n p q h =
    let long : n ≤ length (drop at p) = rw length-drop (omega arith) in
    ap (take n) (drop-append-le at p q (omega arith)) ∙ take-append-le n (drop at p) q long

-- a part of a part
pub part-part : {A : Type 0} (at m k n : ℕ) (l : List A) → at + m ≤ length l → k + n ≤ m → part k n (part at m l) ≡ part (at + k) n l
part-part at m k n l h w =
    sym (part-front k n (part at m l) (drop (at + m) l) (omega (arith, length_part at m l h)))
    ∙ ap (part k n) (sym (drop-part at m l))
    ∙ part-drop at k n l

-- what is laid over a list of the same length is all that is left
pub laid-whole : {A : Type 0} (l xs : List A) (n : ℕ) → length l ≡ n → length xs ≡ n → laid 0 xs l ≡ xs
unfolding laid
laid-whole {A} l xs n h k =
    let short : length l ≤ 0 + length xs = omega arith in
    ap (λ (m : List A). xs ++ m) (drop_of_length-le l short) ∙ append-nil xs

module _ {A : Type 0} (d : A) (at : ℕ) (xs l : List A) (fits : at + length xs ≤ length l) where
  pub part-before : (k n : ℕ) → k + n ≤ at → part k n (laid at xs l) ≡ part k n l
  part-before k n h =
      let long = length-laid at xs l fits in
      let a : length (part k n (laid at xs l)) ≡ n = length_part k n (laid at xs l) (omega (arith, long)) in
      let b : length (part k n l) ≡ n = length_part k n l (omega arith) in
      ext_get_or d (part k n (laid at xs l)) (part k n l) (a ∙ sym b) (λ i j.
      let m : i < n = omega (arith, a) in
      get_d_part k n (laid at xs l) d i m ∙ laid-others at xs l fits d (k + i) (inl (omega arith)) ∙ sym (get_d_part k n l d i m))

  pub drop-after : (k : ℕ) → at + length xs ≤ k → drop k (laid at xs l) ≡ drop k l
  drop-after k h =
      let long = length-laid at xs l fits in
      let e : length (drop k (laid at xs l)) ≡ length (drop k l) = length-drop k (laid at xs l) ∙ ap (λ (m : ℕ). m - k) long
      ∙ sym (length-drop k l) in
      ext_get_or d (drop k (laid at xs l)) (drop k l) e (λ i j.
      get_or-drop k (laid at xs l) i d ∙ laid-others at xs l fits d (k + i) (inr (omega arith)) ∙ sym (get_or-drop k l i d))

  pub part-after : (k n : ℕ) → at + length xs ≤ k → part k n (laid at xs l) ≡ part k n l
  unfolding part
  part-after k n h = ap (take n) (drop-after k h)

-- a part of what is laid is that part of it
pub part-within : {A : Type 0} (at : ℕ) (xs l : List A) (k n : ℕ) → at + length xs ≤ length l → k + n ≤ length xs
    → part (at + k) n (laid at xs l) ≡ part k n xs
unfolding laid
part-within at xs l k n fits h =
    let q = drop (at + length xs) l in
    let e : length (take at l) ≡ at = length-take-le at l (omega arith) in
    ap (λ (m : ℕ). part (m + k) n (take at l ++ xs ++ q)) (sym e)
    ∙ ap (part (length (take at l) + k) n) (append_assoc (take at l) xs q)
    ∙ part-behind (take at l) (xs ++ q) k n
    ∙ part-front k n xs q h
