-- What a loop that changes each element where it stands has made of a list after i turns. Assumes nothing.
use Prim.Native.Nat.{ℕ, zero, suc, ◌+◌, ◌≤◌, ◌<◌}
use mathlib.Core.Path.{◌≡◌, refl, ap}
use mathlib.Core.List.{List, [], ◌∷◌, map}
use native.Mathlib.Omega.{arith}
use native.Mathlib.Numerals.{add-one}
use lib.ListN.{length, get_or, set}
use Rattle.base_laws.specs.Lists.{on_first, Changes}

module _ {A : Type 0} (f : A → A) where
  pub on_first-none : (l : List A) → l ≡ on_first f 0 l
  unfolding on_first
  on_first-none l = refl

  pub on_first-length : (i : ℕ) (l : List A) → length (on_first f i l) ≡ length l
  unfolding on_first
  on_first-length zero l = refl
  on_first-length (suc i) [] = refl
  on_first-length (suc i) (x ∷ l) = ap suc (on_first-length i l)

  pub on_first-at : (i : ℕ) (l : List A) (d : A) → get_or (on_first f i l) i d ≡ get_or l i d
  unfolding on_first
  on_first-at zero l d = refl
  on_first-at (suc i) [] d = refl
  on_first-at (suc i) (x ∷ l) d = on_first-at i l d

  on_first_suc : (i : ℕ) (l : List A) (d : A) → set (on_first f i l) i (f (get_or l i d)) ≡ on_first f (suc i) l
  unfolding on_first
  on_first_suc zero [] d = refl
  on_first_suc zero (x ∷ l) d = refl
  on_first_suc (suc i) [] d = refl
  on_first_suc (suc i) (x ∷ l) d = ap (λ (m : List A). f x ∷ m) (on_first_suc i l d)

  pub on_first-next : (i : ℕ) (l : List A) (d : A) → set (on_first f i l) i (f (get_or l i d)) ≡ on_first f (i + 1) l
  on_first-next i l d = rw add-one (on_first_suc i l d)

  pub on_first-all : (i : ℕ) (l : List A) → length l ≤ i → on_first f i l ≡ map f l
  unfolding on_first
  on_first-all zero [] h = refl
  on_first-all zero (x ∷ l) h = absurd (omega arith)
  on_first-all (suc i) [] h = refl
  on_first-all (suc i) (x ∷ l) h = ap (λ (m : List A). f x ∷ m) (on_first-all i l (omega arith))

  on_first-done : (n : ℕ) (l : List A) (d : A) (i : ℕ) → i < n → i < length l → get_or (on_first f n l) i d ≡ f (get_or l i d)
  unfolding on_first
  on_first-done zero l d i h k = absurd (omega arith)
  on_first-done (suc n) [] d i h k = absurd (omega arith)
  on_first-done (suc n) (x ∷ l) d zero h k = refl
  on_first-done (suc n) (x ∷ l) d (suc i) h k = on_first-done n l d i (omega arith) (omega arith)

  on_first-rest : (n : ℕ) (l : List A) (d : A) (i : ℕ) → n ≤ i → get_or (on_first f n l) i d ≡ get_or l i d
  unfolding on_first
  on_first-rest zero l d i h = refl
  on_first-rest (suc n) [] d i h = refl
  on_first-rest (suc n) (x ∷ l) d zero h = absurd (omega arith)
  on_first-rest (suc n) (x ∷ l) d (suc i) h = on_first-rest n l d i (omega arith)

pub changes : Changes
changes = record { long = on_first-length; done = on_first-done; rest = on_first-rest }
