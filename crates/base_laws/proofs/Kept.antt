-- What changes of a list keep: a test that every element passes still holds after them. Assumes nothing.
use Prim.Native.Nat.{ℕ, zero, suc}
use mathlib.Core.Path.{◌≡◌, refl}
use mathlib.Core.List.{List, [], ◌∷◌, ◌++◌, map}
use mathlib.Core.Bool.{Bool, true}
use lib.ListN.{drop, set, replicate}
use Rattle.base_laws.specs.Lists.{every}
use Rattle.base_laws.proofs.Tests.{both_true}

module _ {A : Type 0} (test : A → Bool) where
  both : (x : A) (l : List A) → every test (x ∷ l) ≡ true → (test x ≡ true) × (every test l ≡ true)
  unfolding every
  both x l h = (both_true (test x) (every test l)).0 h

  join : (x : A) (l : List A) → test x ≡ true → every test l ≡ true → every test (x ∷ l) ≡ true
  unfolding every
  join x l h k = (both_true (test x) (every test l)).1 (h, k)

  pub every-replicate : (n : ℕ) (v : A) → test v ≡ true → every test (replicate n v) ≡ true
  unfolding every
  every-replicate zero v h = refl
  every-replicate (suc n) v h = join v (replicate n v) h (every-replicate n v h)

  pub every_append : (l m : List A) → every test l ≡ true → every test m ≡ true → every test (l ++ m) ≡ true
  every_append [] m h k = k
  every_append (x ∷ l) m h k = join x (l ++ m) (both x l h).0 (every_append l m (both x l h).1 k)

  pub every_drop : (n : ℕ) (l : List A) → every test l ≡ true → every test (drop n l) ≡ true
  every_drop zero l h = h
  every_drop (suc n) [] h = h
  every_drop (suc n) (x ∷ l) h = every_drop n l (both x l h).1

  pub every_set : (l : List A) (i : ℕ) (v : A) → test v ≡ true → every test l ≡ true → every test (set l i v) ≡ true
  every_set [] i v t h = h
  every_set (x ∷ l) zero v t h = join v l t (both x l h).1
  every_set (x ∷ l) (suc i) v t h = join x (set l i v) (both x l h).0 (every_set l i v t (both x l h).1)

  pub every_map : (f : A → A) → ((x : A) → test x ≡ true → test (f x) ≡ true) → (l : List A) → every test l ≡ true
      → every test (map f l) ≡ true
  every_map f k [] h = h
  every_map f k (x ∷ l) h = join (f x) (map f l) (k x (both x l h).0) (every_map f k l (both x l h).1)

pub drop-map : {A B : Type 0} (f : A → B) (n : ℕ) (l : List A) → drop n (map f l) ≡ map f (drop n l)
drop-map f zero l = refl
drop-map f (suc n) [] = refl
drop-map f (suc n) (x ∷ l) = drop-map f n l
