-- A test that every element passes, and a test of every pair of two lists, place by place. Assumes nothing.
use Prim.Native.Nat.{ℕ, zero, suc, ◌<◌}
use mathlib.Core.Path.{◌≡◌, refl, ap}
use mathlib.Core.List.{List, [], ◌∷◌}
use mathlib.Core.Bool.{Bool, true, false, false≢true}
use mathlib.Core.Logic.{◌↔◌, ⊎_elim}
use native.Mathlib.Omega.{arith}
use lib.Dec.{eqb}
use lib.ListN.{length, get_or}
use borrow.Author.Tests.{eqb-true, eqb-false}
use Rattle.base_laws.specs.Lists.{every, every_below, every_pair}
use Rattle.base_laws.proofs.Tests.{known, both_true}

module _ {A : Type 0} (test : A → Bool) where
  every-at : (l : List A) (d : A) → every test l ≡ true → (i : ℕ) → i < length l → test (get_or l i d) ≡ true
  unfolding every
  every-at [] d h i k = absurd (omega arith)
  every-at (x ∷ l) d h zero k = ((both_true (test x) (every test l)).0 h).0
  every-at (x ∷ l) d h (suc i) k = every-at l d ((both_true (test x) (every test l)).0 h).1 i (omega arith)

  every-from : (l : List A) (d : A) → ((i : ℕ) → i < length l → test (get_or l i d) ≡ true) → every test l ≡ true
  unfolding every
  every-from [] d h = refl
  every-from (x ∷ l) d h = (both_true (test x) (every test l)).1 (h 0 (omega arith), every-from l d (λ i k. h (suc i) (omega arith)))

  pub every_is : (l : List A) (d : A) → (every test l ≡ true) ↔ ((i : ℕ) → i < length l → test (get_or l i d) ≡ true)
  every_is l d = (every-at l d, every-from l d)

  -- a table that passes, and what stands for "past the end" too: so at every place, with no bound
  pub every_anywhere : (l : List A) (d : A) → every test l ≡ true → test d ≡ true → (i : ℕ) → test (get_or l i d) ≡ true
  unfolding every
  every_anywhere [] d h z i = z
  every_anywhere (x ∷ l) d h z zero = ((both_true (test x) (every test l)).0 h).0
  every_anywhere (x ∷ l) d h z (suc i) = every_anywhere l d ((both_true (test x) (every test l)).0 h).1 z i

pub below_is : (test : ℕ → Bool) (n : ℕ) → every_below test n ≡ true → (i : ℕ) → i < n → test i ≡ true
unfolding every_below
below_is test zero h i k = absurd (omega arith)
below_is test (suc n) h i k =
    let b = (both_true (test n) (every_below test n)).0 h in
    ⊎_elim
    (λ (e : eqb i n ≡ true). rw (eqb-true i n e) b.0)
    (λ (e : eqb i n ≡ false). below_is test n b.1 i (omega (arith, eqb-false i n e)))
    (known (eqb i n))

module _ {A B : Type 0} (test : A → B → Bool) where
  pair_long : (l : List A) (m : List B) → every_pair test l m ≡ true → length l ≡ length m
  unfolding every_pair
  pair_long [] [] h = refl
  pair_long [] (y ∷ m) h = absurd (false≢true h)
  pair_long (x ∷ l) [] h = absurd (false≢true h)
  pair_long (x ∷ l) (y ∷ m) h = ap suc (pair_long l m ((both_true (test x y) (every_pair test l m)).0 h).1)

  pair_at : (l : List A) (m : List B) (d : A) (e : B) → every_pair test l m ≡ true → (i : ℕ) → i < length l
      → test (get_or l i d) (get_or m i e) ≡ true
  unfolding every_pair
  pair_at [] [] d e h i k = absurd (omega arith)
  pair_at [] (y ∷ m) d e h i k = absurd (false≢true h)
  pair_at (x ∷ l) [] d e h i k = absurd (false≢true h)
  pair_at (x ∷ l) (y ∷ m) d e h zero k = ((both_true (test x y) (every_pair test l m)).0 h).0
  pair_at (x ∷ l) (y ∷ m) d e h (suc i) k = pair_at l m d e ((both_true (test x y) (every_pair test l m)).0 h).1 i (omega arith)

  pair_from : (l : List A) (m : List B) (d : A) (e : B) → length l ≡ length m
      → ((i : ℕ) → i < length l → test (get_or l i d) (get_or m i e) ≡ true) → every_pair test l m ≡ true
  unfolding every_pair
  pair_from [] [] d e n h = refl
  pair_from [] (y ∷ m) d e n h = absurd (omega arith)
  pair_from (x ∷ l) [] d e n h = absurd (omega arith)
  pair_from (x ∷ l) (y ∷ m) d e n h =
      (both_true (test x y) (every_pair test l m)).1 (h 0 (omega arith), pair_from l m d e (omega arith) (λ i k. h (suc i) (omega arith)))

  pub pair_is : (l : List A) (m : List B) (d : A) (e : B)
      → (every_pair test l m ≡ true) ↔ ((length l ≡ length m) × ((i : ℕ) → i < length l → test (get_or l i d) (get_or m i e) ≡ true))
  pair_is l m d e = (λ h. (pair_long l m h, pair_at l m d e h), λ h. pair_from l m d e h.0 h.1)

  -- the same of two tables side by side
  pub pair_anywhere : (l : List A) (m : List B) (d : A) (e : B) → every_pair test l m ≡ true → test d e ≡ true
      → (i : ℕ) → test (get_or l i d) (get_or m i e) ≡ true
  unfolding every_pair
  pair_anywhere [] [] d e h z i = z
  pair_anywhere [] (y ∷ m) d e h z i = absurd (false≢true h)
  pair_anywhere (x ∷ l) [] d e h z i = absurd (false≢true h)
  pair_anywhere (x ∷ l) (y ∷ m) d e h z zero = ((both_true (test x y) (every_pair test l m)).0 h).0
  pair_anywhere (x ∷ l) (y ∷ m) d e h z (suc i) = pair_anywhere l m d e ((both_true (test x y) (every_pair test l m)).0 h).1 z i
