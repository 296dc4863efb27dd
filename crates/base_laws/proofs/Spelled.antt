-- A list of a known length, element by element: a law of such a list then holds by computing, however long it is. Assumes nothing.
use Prim.Native.Nat.{ℕ, zero, suc}
use mathlib.Core.Path.{◌≡◌, refl, ap, subst}
use mathlib.Core.List.{List, [], ◌∷◌}
use native.Mathlib.Omega.{arith}
use lib.ListN.{length, get_or, drop}

module _ {A : Type 0} (d : A) where
  -- the first n elements one by one, d for each that is missing: its n cells are there to compute with, whatever the list
  abbrev pub spelled : ℕ → List A → List A
  spelled zero l = []
  spelled (suc n) l = get_or l 0 d ∷ spelled n (drop 1 l)

  pub spelled-all : (n : ℕ) (l : List A) → length l ≡ n → spelled n l ≡ l
  spelled-all zero [] h = refl
  spelled-all zero (x ∷ l) h = absurd (omega arith)
  spelled-all (suc n) [] h = absurd (omega arith)
  spelled-all (suc n) (x ∷ l) h = ap (λ (m : List A). x ∷ m) (spelled-all n l (omega arith))

  -- what holds of the list spelled holds of it
  pub by_elements : (n : ℕ) (P : List A → Type 0) (l : List A) → length l ≡ n → P (spelled n l) → P l
  by_elements n P l h p = subst P (spelled-all n l h) p
