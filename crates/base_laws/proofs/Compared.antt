-- Two lists compared pair by pair. Assumes nothing.
use Prim.Native.Nat.{suc}
use mathlib.Core.Path.{◌≡◌, refl, ap}
use mathlib.Core.List.{List, [], ◌∷◌}
use mathlib.Core.Bool.{Bool, true, false, ◌&&◌}
use lib.ListN.{length}
use Rattle.base_laws.specs.Lists.{every_pair}

-- lists of two lengths do not agree
pub pair_lengths : {A B : Type 0} (test : A → B → Bool) (l : List A) (m : List B) → (length l ≡ length m → ⊥) → every_pair test l m ≡ false
unfolding every_pair
pair_lengths test [] [] n = absurd (n refl)
pair_lengths test [] (y ∷ m) n = refl
pair_lengths test (x ∷ l) [] n = refl
pair_lengths test (x ∷ l) (y ∷ m) n = rw (pair_lengths test l m (λ e. n (ap suc e))) (no (test x y))
  where
    no : (b : Bool) → (b && false) ≡ false
    no true = refl
    no false = refl
