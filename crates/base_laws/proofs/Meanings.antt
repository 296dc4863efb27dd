-- What the tests of specs/Lists.antt mean: the same list, a number absent, none twice, a number's place. Assumes nothing.
use Prim.Native.Nat.{ℕ, zero, suc, ◌+◌, ◌≤◌, ◌<◌, zero-le}
use mathlib.Core.Path.{◌≡◌, refl, sym, ap, ◌∙◌}
use mathlib.Core.List.{List, [], ◌∷◌, ◌++◌}
use mathlib.Core.Bool.{Bool, true, false, not, ◌&&◌, and-true, and_assoc}
use mathlib.Core.Logic.{◌↔◌, ◌⊎◌, inl, inr, ⊎_elim}
use native.Mathlib.Omega.{arith}
use lib.Dec.{eqb, ltb}
use lib.ListN.{length, get_or, take}
use lib.Seq.{ext_get_or}
use borrow.Author.Tests.{eq-eqb, ne_eqb, eqb-true, eqb-false, ltb-true, ltb-false, not-true}
use Rattle.base_laws.specs.Lists.{every_pair, same, absent, distinct, place_of, Meanings}
use Rattle.base_laws.proofs.Tests.{known, both_true}
use Rattle.base_laws.proofs.Everywhere.{every_is, below_is, pair_is}

-- a list one longer than p: p in front, and x behind it
pub same-last : (l p : List ℕ) (x : ℕ) → length l ≡ length p + 1
    → same l (p ++ (x ∷ [])) ≡ (same (take (length p) l) p && eqb (get_or l (length p) 0) x)
unfolding every_pair
same-last [] p x h = absurd (omega arith)
same-last (y ∷ []) [] x h = and-true (eqb y x)
same-last (y ∷ z ∷ l) [] x h = absurd (omega arith)
same-last (y ∷ l) (z ∷ p) x h =
    ap (λ (b : Bool). eqb y z && b) (same-last l p x (omega arith))
    ∙ sym (and_assoc (eqb y z) (same (take (length p) l) p) (eqb (get_or l (length p) 0) x))

pub same_is : (l m : List ℕ) → (same l m ≡ true) ↔ (l ≡ m)
same_is l m = (to, from)
  where
    to : same l m ≡ true → l ≡ m
    to h =
        let p = (pair_is eqb l m 0 0).0 h in
        ext_get_or 0 l m p.0 (λ i k. eqb-true (get_or l i 0) (get_or m i 0) (p.1 i k))

    from : l ≡ m → same l m ≡ true
    from e = (pair_is eqb l m 0 0).1 (ap length e, λ i k. eq-eqb (get_or l i 0) (get_or m i 0) (ap (λ (x : List ℕ). get_or x i 0) e))

pub absent_is : (x : ℕ) (l : List ℕ) → (absent x l ≡ true) ↔ ((i : ℕ) → i < length l → get_or l i 0 ≡ x → ⊥)
absent_is x l = (
  λ h i k. eqb-false _ _ (not-true (eqb (get_or l i 0) x) ((every_is (λ y. not (eqb y x)) l 0).0 h i k)),
  λ h. (every_is (λ y. not (eqb y x)) l 0).1 (λ i k. ap not (ne_eqb (get_or l i 0) x (h i k))),
)

distinct-to : (l : List ℕ) → distinct l ≡ true → (i j : ℕ) → i < j → j < length l → get_or l i 0 ≡ get_or l j 0 → ⊥
unfolding distinct
distinct-to [] h i j k m e = omega arith
distinct-to (x ∷ l) h i zero k m e = omega arith
distinct-to (x ∷ l) h zero (suc j) k m e = (absent_is x l).0 ((both_true (absent x l) (distinct l)).0 h).0 j (omega arith) (sym e)
distinct-to (x ∷ l) h (suc i) (suc j) k m e = distinct-to l ((both_true (absent x l) (distinct l)).0 h).1 i j (omega arith) (omega arith) e

distinct_from : (l : List ℕ) → ((i j : ℕ) → i < j → j < length l → get_or l i 0 ≡ get_or l j 0 → ⊥) → distinct l ≡ true
unfolding distinct
distinct_from [] h = refl
distinct_from (x ∷ l) h =
    (both_true (absent x l) (distinct l)).1 (
      (absent_is x l).1 (λ j k e. h 0 (suc j) (omega arith) (omega arith) (sym e)),
      distinct_from l (λ i j k m e. h (suc i) (suc j) (omega arith) (omega arith) e),
    )

pub distinct_is : (l : List ℕ) → (distinct l ≡ true) ↔ ((i j : ℕ) → i < j → j < length l → get_or l i 0 ≡ get_or l j 0 → ⊥)
distinct_is l = (distinct-to l, distinct_from l)

module _ (x y : ℕ) (l : List ℕ) where
  place_here : y ≡ x → place_of x (y ∷ l) ≡ 0
  unfolding place_of
  place_here e = rw (eq-eqb y x e)

  place-later : (y ≡ x → ⊥) → place_of x (y ∷ l) ≡ suc (place_of x l)
  unfolding place_of
  place-later n = rw (ne_eqb y x n)

-- the first element is x, or it is not
is_x : (x y : ℕ) → (y ≡ x) ⊎ (y ≡ x → ⊥)
is_x x y = ⊎_elim (λ t. inl (eqb-true y x t)) (λ f. inr (eqb-false y x f)) (known (eqb y x))

pub place_most : (x : ℕ) (l : List ℕ) → place_of x l ≤ length l
unfolding place_of
place_most x [] = zero-le
place_most x (y ∷ l) =
    ⊎_elim (λ e. omega (arith, place_here x y l e)) (λ n. omega (arith, place-later x y l n, place_most x l)) (is_x x y)

pub place_holds : (x : ℕ) (l : List ℕ) → place_of x l < length l → get_or l (place_of x l) 0 ≡ x
place_holds x [] h = absurd (omega arith)
place_holds x (y ∷ l) h =
    ⊎_elim
    (λ e. rw (place_here x y l e) e)
    (λ n. rw (place-later x y l n) (place_holds x l (omega (arith, place-later x y l n))))
    (is_x x y)

pub place_first : (x : ℕ) (l : List ℕ) (i : ℕ) → i < place_of x l → get_or l i 0 ≡ x → ⊥
unfolding place_of
place_first x [] i h e = omega arith
place_first x (y ∷ l) zero h e = omega (arith, place_here x y l e)
place_first x (y ∷ l) (suc i) h e =
    ⊎_elim
    (λ k. omega (arith, place_here x y l k))
    (λ n. place_first x l i (omega (arith, place-later x y l n)) e)
    (is_x x y)

pub place_absent : (x : ℕ) (l : List ℕ) → (place_of x l ≡ length l) ↔ (absent x l ≡ true)
place_absent x l = (to, from)
  where
    to : place_of x l ≡ length l → absent x l ≡ true
    to e = (absent_is x l).1 (λ i k. place_first x l i (omega arith))

    from : absent x l ≡ true → place_of x l ≡ length l
    from h =
        ⊎_elim
        (λ (t : ltb (place_of x l) (length l) ≡ true).
        let k : place_of x l < length l = ltb-true (place_of x l) (length l) t in
        absurd ((absent_is x l).0 h (place_of x l) k (place_holds x l k)))
        (λ (t : ltb (place_of x l) (length l) ≡ false). omega (arith, place_most x l, ltb-false (place_of x l) (length l) t))
        (known (ltb (place_of x l) (length l)))

pub meanings : Meanings
meanings = record {
  every_is = every_is;
  below_is = below_is;
  pair_is = pair_is;
  same_is = same_is;
  absent_is = absent_is;
  distinct_is = distinct_is;
  place_holds = place_holds;
  place_first = place_first;
  place_most = place_most;
  place_absent = place_absent;
}
