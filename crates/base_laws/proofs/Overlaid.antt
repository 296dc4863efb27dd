-- What a list is once something is laid over it, and one thing laid behind another: the statement `Parts` of specs/Lists.antt. Assumes
-- nothing.
use Prim.Native.Nat.{ℕ, suc, ◌+◌, ◌-◌, ◌≤◌, ◌<◌}
use mathlib.Core.Path.{◌≡◌, refl, sym, ap, ◌∙◌}
use mathlib.Core.List.{List, [], ◌∷◌, ◌++◌, append_assoc}
use mathlib.Core.Logic.{◌⊎◌, ⊎_elim}
use native.Mathlib.Omega.{arith}
use native.Mathlib.Numerals.{add-one}
use native.Mathlib.Nat.{add-zero}
use lib.ListN.{length, get_or, set, take, drop, length-append, length-drop, take-append-drop, get_or-append}
use lib.Seq.{length-take-le, take_at, drop-drop, drop-cons, get_or-take, get_or-drop, get_or-append-add, drop-append-add, append_snoc, set_at}
use lib.Seq.{take-suc, take-append-le, drop-append-le}
use Rattle.base_laws.specs.Lists.{part, laid, Parts}
use Rattle.base_laws.proofs.Parts.{length_part, get_d_part, part-here}

module _ {A : Type 0} where
  -- what stands before what is laid, with it
  front_long : (at : ℕ) (xs l : List A) → at ≤ length l → length (take at l ++ xs) ≡ at + length xs
  front_long at xs l h = length-append (take at l) xs ∙ ap (λ (k : ℕ). k + length xs) (length-take-le at l h)

  pub laid_none : (at : ℕ) (l : List A) → laid at [] l ≡ l
  unfolding laid
  laid_none at l =
      append_assoc (take at l) [] (drop (at + 0) l)
      ∙ ap (λ (k : ℕ). take at l ++ drop k l) (add-zero at)
      ∙ take-append-drop at l

  module _ (at : ℕ) (xs l : List A) (fits : at + length xs ≤ length l) where
    front : length (take at l) ≡ at
    front = length-take-le at l (omega arith)

    pub laid-back : part at (length xs) (laid at xs l) ≡ xs
    unfolding laid
    laid-back = part-here (take at l) xs (drop (at + length xs) l) at (length xs) front refl

    pub length-laid : length (laid at xs l) ≡ length l
    unfolding laid
    length-laid = rw (length-append (take at l ++ xs), length-append (take at l) xs, front, length-drop) (omega arith)

    pub laid-others : (d : A) (i : ℕ) → (i < at) ⊎ (at + length xs ≤ i) → get_or (laid at xs l) i d ≡ get_or l i d
    unfolding laid
    laid-others d i w = ⊎_elim before behind w
      where
        p : List A
        p = take at l ++ xs

        long : length p ≡ at + length xs
        long = front_long at xs l (omega arith)

        before : i < at → get_or (laid at xs l) i d ≡ get_or l i d
        before h =
            let short : i < length (take at l) = omega (arith, front) in
            ap (λ (m : List A). get_or m i d) (append_assoc (take at l) xs (drop (at + length xs) l))
            ∙ get_or-append (take at l) (xs ++ drop (at + length xs) l) d i short
            ∙ get_or-take at l i d h

        behind : at + length xs ≤ i → get_or (laid at xs l) i d ≡ get_or l i d
        behind h =
            let k = i - (at + length xs) in
            let e : i ≡ length p + k = omega (arith, long) in
            let f : at + length xs + k ≡ i = omega arith in
            ap (λ (m : ℕ). get_or (laid at xs l) m d) e
            ∙ get_or-append-add p (drop (at + length xs) l) k d
            ∙ get_or-drop (at + length xs) l k d
            ∙ ap (λ (m : ℕ). get_or l m d) f

  -- two laid side by side are one
  pub laid-append : (at : ℕ) (xs ys l : List A) → at + length xs + length ys ≤ length l
      → laid (at + length xs) ys (laid at xs l) ≡ laid at (xs ++ ys) l
  unfolding laid
  laid-append at xs ys l h =
      let p = take at l ++ xs in
      let q = drop (at + length xs) l in
      let long : length p ≡ at + length xs = front_long at xs l (omega arith) in
      let t : take (at + length xs) (p ++ q) ≡ p = take_at p q (at + length xs) long in
      let e : at + length xs + length ys ≡ length p + length ys = omega arith in
      let d : drop (at + length xs + length ys) (p ++ q) ≡ drop (at + length xs + length ys) l =
      ap (λ (k : ℕ). drop k (p ++ q)) e ∙ drop-append-add p q (length ys) ∙ drop-drop (length ys) (at + length xs) l in
      let n : at + length xs + length ys ≡ at + length (xs ++ ys) = rw length-append (omega arith) in
      ap (λ (m : List A). m ++ ys ++ drop (at + length xs + length ys) (p ++ q)) t
      ∙ ap (λ (m : List A). p ++ ys ++ m) d
      ∙ ap (λ (m : List A). m ++ drop (at + length xs + length ys) l) (append_assoc (take at l) xs ys)
      ∙ ap (λ (k : ℕ). take at l ++ (xs ++ ys) ++ drop k l) n

  -- the same where the first is n long
  pub laid_next : (at n : ℕ) (xs ys l : List A) → length xs ≡ n → at + n + length ys ≤ length l
      → laid (at + n) ys (laid at xs l) ≡ laid at (xs ++ ys) l
  laid_next at n xs ys l e h =
      ap (λ (k : ℕ). laid (at + k) ys (laid at xs l)) (sym e) ∙ laid-append at xs ys l (omega arith)

  -- one element more stored behind what is laid
  pub laid_more : (at : ℕ) (xs l : List A) (x : A) → at + length xs < length l
      → set (laid at xs l) (at + length xs) x ≡ laid at (xs ++ (x ∷ [])) l
  unfolding laid
  laid_more at xs l x h =
      let n = at + length xs in
      let p = take at l ++ xs in
      let long : length p ≡ n = front_long at xs l (omega arith) in
      let next : suc n ≡ at + length (xs ++ (x ∷ [])) = rw length-append (omega arith) in
      ap (λ (m : List A). set (p ++ m) n x) (drop-cons l n x h)
      ∙ set_at p (get_or l n x) (drop (suc n) l) x n long
      ∙ sym (append_snoc p x (drop (suc n) l))
      ∙ ap (λ (m : List A). m ++ drop (suc n) l) (append_assoc (take at l) xs (x ∷ []))
      ∙ ap (λ (k : ℕ). take at l ++ (xs ++ (x ∷ [])) ++ drop k l) next

  -- one element more stored before it
  pub laid-before : (at : ℕ) (xs l : List A) (x : A) → at + 1 + length xs ≤ length l → set (laid (at + 1) xs l) at x ≡ laid at (x ∷ xs) l
  unfolding laid
  laid-before at xs l x h =
      let y = get_or l at x in
      let q = drop (at + 1 + length xs) l in
      let front : take (at + 1) l ≡ take at l ++ (y ∷ []) = ap (λ (k : ℕ). take k l) (add-one at) ∙ take-suc l at x (omega arith) in
      let same_end : at + 1 + length xs ≡ at + suc (length xs) = omega arith in
      let shape : take (at + 1) l ++ xs ++ q ≡ take at l ++ (y ∷ (xs ++ q)) =
      ap (λ (m : List A). m ++ xs ++ q) front ∙ append_assoc (take at l ++ (y ∷ [])) xs q ∙ append_snoc (take at l) y (xs ++ q) in
      ap (λ (m : List A). set m at x) shape
      ∙ set_at (take at l) y (xs ++ q) x at (length-take-le at l (omega arith))
      ∙ sym (append_assoc (take at l) (x ∷ xs) q)
      ∙ ap (λ (k : ℕ). take at l ++ (x ∷ xs) ++ drop k l) same_end

  -- one element stored is one laid
  pub laid_one : (i : ℕ) (l : List A) (x : A) → i < length l → set l i x ≡ laid i (x ∷ []) l
  laid_one i l x h =
      ap (λ (m : List A). set m i x) (sym (laid_none i l))
      ∙ ap (λ (k : ℕ). set (laid i [] l) k x) (sym (add-zero i))
      ∙ laid_more i [] l x (rw (add-zero i) h)

  -- what is laid inside r, laid at the front, may be laid into r first
  pub laid-inside : (at : ℕ) (xs r l : List A) → at + length xs ≤ length r → length r ≤ length l
      → laid at xs (laid 0 r l) ≡ laid 0 (laid at xs r) l
  unfolding laid
  laid-inside at xs r l h k =
      let n = at + length xs in
      let q = drop (0 + length r) l in
      ap (λ (m : List A). m ++ xs ++ drop n (r ++ q)) (take-append-le at r q (omega arith))
      ∙ ap (λ (m : List A). take at r ++ xs ++ m) (drop-append-le n r q h)
      ∙ sym (append_assoc (take at r ++ xs) (drop n r) q)
      ∙ ap (λ (m : ℕ). laid at xs r ++ drop (0 + m) l) (sym (length-laid at xs r h))

pub parts : Parts
parts =
    record {
      back = laid-back;
      others = λ at xs l d i h w. laid-others at xs l h d i w;
      long = length-laid;
      size = length_part;
      holds = get_d_part;
    }
