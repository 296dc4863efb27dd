-- The first slots of a list are the used ones, as far as a loop over the slots has come. Assumes nothing.
use Prim.Native.Nat.{ℕ, ◌+◌, ◌≤◌, ◌<◌, min}
use mathlib.Core.List.{List}
use mathlib.Core.Logic.{⊎_elim}
use mathlib.Core.Path.{◌≡◌, sym, ap, ◌∙◌}
use native.Mathlib.Omega.{arith}
use lib.Dec.{ltb}
use lib.ListN.{length, set}
use borrow.Author.Tests.{ltb-true, ltb-false}
use Rattle.base_laws.specs.Lists.{on_first}
use Rattle.base_laws.proofs.Tests.{known}
use Rattle.base_laws.proofs.OnFirst.{on_first-none, on_first-next, on_first-all}

-- no slot seen yet
pub unseen : (h used : ℕ) (l : List ℕ) → l ≡ on_first (λ y. h) (min 0 used) l
unseen h used l = let e : min 0 used ≡ 0 = omega arith in rw e (on_first-none (λ y. h) l)

module _ (h i used : ℕ) (l m : List ℕ) (e : m ≡ on_first (λ y. h) (min i used) l) where
  -- the same count by another name
  counted : (n k : ℕ) → n ≡ k → on_first (λ y. h) n l ≡ on_first (λ y. h) k l
  counted n k q = ap (λ (x : ℕ). on_first (λ y. h) x l) q

  -- a used slot, and one that is not
  pub next-used : i < used → set m i h ≡ on_first (λ y. h) (min (i + 1) used) l
  next-used k =
      ap (λ (x : List ℕ). set x i h) (e ∙ counted (min i used) i (omega arith)) ∙ on_first-next (λ y. h) i l 0
      ∙ counted (i + 1) (min (i + 1) used) (omega arith)

  pub next-unused : used ≤ i → m ≡ on_first (λ y. h) (min (i + 1) used) l
  next-unused k = e ∙ counted (min i used) (min (i + 1) used) (omega arith)

  -- all slots are seen: whatever the count, the used ones are set
  pub seen : length l ≤ i → m ≡ on_first (λ y. h) used l
  seen k =
      ⊎_elim (λ t. within (ltb-true i used t)) (λ f. e ∙ counted (min i used) used (omega (arith, ltb-false i used f)))
      (known (ltb i used))
    where
      within : i < used → m ≡ on_first (λ y. h) used l
      within g =
          e ∙ counted (min i used) i (omega arith) ∙ on_first-all (λ y. h) i l k ∙ sym (on_first-all (λ y. h) used l (omega arith))
