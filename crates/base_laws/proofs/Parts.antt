-- Parts of a list: where they stand, how long they are, and side by side. Assumes nothing.
use Prim.Native.Nat.{ℕ, suc, ◌+◌, ◌≤◌, ◌<◌}
use mathlib.Core.Path.{◌≡◌, refl, sym, ap, ap₂, ◌∙◌}
use mathlib.Core.List.{List, [], ◌∷◌, ◌++◌, append_assoc}
use native.Mathlib.Omega.{arith}
use native.Mathlib.Numerals.{add-one}
use lib.ListN.{length, get_or, take, drop, length-drop, take-append-drop}
use lib.Seq.{length-take-le, take_at, drop_at, take-add, drop-drop, take_all, drop-cons, get_or-take, get_or-drop, drop-append-add}
use Rattle.base_laws.specs.Lists.{part}

module _ {A : Type 0} where
  pub part_none : (at : ℕ) (l : List A) → part at 0 l ≡ []
  unfolding part
  part_none at l = refl

  -- one element more, at the front and at the end
  pub part_cons : (at n : ℕ) (l : List A) (d : A) → at < length l → part at (suc n) l ≡ get_or l at d ∷ part (at + 1) n l
  unfolding part
  part_cons at n l d h = ap (take (suc n)) (drop-cons l at d h) ∙ ap (λ (k : ℕ). get_or l at d ∷ take n (drop k l)) (sym (add-one at))

  -- two parts side by side are one
  pub part-append : (at m n : ℕ) (l : List A) → part at (m + n) l ≡ part at m l ++ part (at + m) n l
  unfolding part
  part-append at m n l = take-add m n (drop at l) ∙ ap (λ (r : List A). take m (drop at l) ++ take n r) (drop-drop m at l)

  pub length_part : (at n : ℕ) (l : List A) → at + n ≤ length l → length (part at n l) ≡ n
  unfolding part
  length_part at n l h = length-take-le n (drop at l) (rw length-drop (omega arith))

  pub get_d_part : (at n : ℕ) (l : List A) (d : A) (i : ℕ) → i < n → get_or (part at n l) i d ≡ get_or l (at + i) d
  unfolding part
  get_d_part at n l d i h = get_or-take n (drop at l) i d h ∙ get_or-drop at l i d

  -- a part of what stands from a place on
  pub part-drop : (from at n : ℕ) (l : List A) → part at n (drop from l) ≡ part (from + at) n l
  unfolding part
  part-drop from at n l = ap (take n) (drop-drop at from l)

  -- what stands from a place on is a part and what stands behind it
  pub drop-part : (at n : ℕ) (l : List A) → drop at l ≡ part at n l ++ drop (at + n) l
  unfolding part
  drop-part at n l = sym (take-append-drop n (drop at l)) ∙ ap (λ (m : List A). take n (drop at l) ++ m) (drop-drop n at l)

  -- the part of a whole list is the list
  pub part-all : (l : List A) → part 0 (length l) l ≡ l
  unfolding part
  part-all l = take_all (length l) l (omega arith)

  -- a part of the list that stands behind p
  pub part-behind : (p q : List A) (at n : ℕ) → part (length p + at) n (p ++ q) ≡ part at n q
  unfolding part
  part-behind p q at n = rw drop-append-add

  -- xs, where it stands between p and q
  pub part-here : (p xs q : List A) (at n : ℕ) → length p ≡ at → length xs ≡ n → part at n (p ++ xs ++ q) ≡ xs
  unfolding part
  part-here p xs q at n hp hn =
      let e : drop at (p ++ xs ++ q) ≡ xs ++ q = ap (drop at) (append_assoc p xs q) ∙ drop_at p (xs ++ q) at hp in
      ap (take n) e ∙ take_at xs q n hn

  -- and in a list that is so put together
  pub part_among : {all : List A} (p xs q : List A) (at n : ℕ) → all ≡ p ++ xs ++ q → length p ≡ at → length xs ≡ n → part at n all ≡ xs
  part_among p xs q at n e hp hn = ap (part at n) e ∙ part-here p xs q at n hp hn

  -- a list given back part by part: two that stand side by side
  pub part-next : {xs ys : List A} (l : List A) (at m n : ℕ) → xs ≡ part at m l → ys ≡ part (at + m) n l → xs ++ ys ≡ part at (m + n) l
  part-next l at m n e f = ap₂ ◌++◌ e f ∙ sym (part-append at m n l)

  -- the part of as many as there are
  pub part-whole : (n : ℕ) (l : List A) → length l ≡ n → part 0 n l ≡ l
  part-whole n l e = ap (λ (k : ℕ). part 0 k l) (sym e) ∙ part-all l
