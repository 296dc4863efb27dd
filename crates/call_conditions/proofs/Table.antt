-- The laws of a table: its length, its elements, and the loop that fills it in place. Assumes nothing.
use Prim.Native.Nat.{ℕ, zero, suc, ◌+◌, ◌<◌}
use mathlib.Core.Path.{◌≡◌, refl, sym, ap, ◌∙◌}
use mathlib.Core.List.{List, [], ◌∷◌, ◌++◌, append-nil}
use mathlib.Core.Logic.{⊎_elim}
use native.Mathlib.Omega.{arith}
use native.Mathlib.Numerals.{add-one}
use lib.Dec.{ltb}
use lib.ListN.{length, get_or, set, length-append, drop_of_length-le, get_or-append}
use lib.Seq.{get_or_at}
use borrow.Author.Tests.{ltb-true, ltb-false}
use Rattle.base_laws.specs.Lists.{laid}
use Rattle.base_laws.proofs.Tests.{known}
use Rattle.base_laws.proofs.Overlaid.{laid_more, laid_none}
use Rattle.call_conditions.specs.Conditions.{table}

module _ (f : ℕ → ℕ) where
  pub table-length : (n : ℕ) → length (table f n) ≡ n
  unfolding table
  table-length zero = refl
  table-length (suc n) = omega (arith, length-append (table f n) (f n ∷ []), table-length n)

  pub table_at : (n i : ℕ) → i < n → get_or (table f n) i 0 ≡ f i
  unfolding table
  table_at zero i h = absurd (omega arith)
  table_at (suc n) i h =
      ⊎_elim
      (λ t. let k : i < n = ltb-true i n t in get_or-append (table f n) (f n ∷ []) 0 i (omega (arith, table-length n)) ∙ table_at n i k)
      (λ t. let e : n ≡ i = omega (arith, ltb-false i n t) in get_or_at (table f n) (f n) [] 0 i (table-length n ∙ e) ∙ ap f e)
      (known (ltb i n))

  -- none filled, one more filled, all filled
  pub table-start : (l : List ℕ) → l ≡ laid 0 (table f 0) l
  unfolding table
  table-start l = sym (laid_none 0 l)

  pub table-next : (l : List ℕ) (i v : ℕ) → i < length l → v ≡ f i → set (laid 0 (table f i) l) i v ≡ laid 0 (table f (i + 1)) l
  unfolding table
  table-next l i v h e =
      let long = table-length i in
      rw (add-one, e)
      (ap (λ (k : ℕ). set (laid 0 (table f i) l) k (f i)) (sym (omega (arith, long)))
      ∙ laid_more 0 (table f i) l (f i) (omega (arith, long)))

  pub table-whole : (l : List ℕ) (n : ℕ) → length l ≡ n → laid 0 (table f n) l ≡ table f n
  unfolding laid
  table-whole l n h =
      let long = table-length n in
      ap (λ (m : List ℕ). table f n ++ m) (drop_of_length-le l {i = 0 + length (table f n)} (omega (arith, long))) ∙ append-nil (table f n)
