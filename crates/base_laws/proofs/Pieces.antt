-- Pieces laid over a list one behind the other: together they are one piece. Assumes nothing.
use Prim.Native.Nat.{ℕ, ◌+◌, ◌≤◌, ◌<◌}
use mathlib.Core.Path.{◌≡◌, refl, ap, ◌∙◌}
use mathlib.Core.List.{List, [], ◌∷◌, ◌++◌}
use native.Mathlib.Omega.{arith}
use lib.ListN.{length, set, length-append}
use Rattle.base_laws.specs.Lists.{laid}
use Rattle.base_laws.proofs.Overlaid.{laid_next, laid_one, length-laid}

-- x is l with the n elements xs laid over it from `at` on
pub record Has {A : Type 0} (at n : ℕ) (xs l x : List A) : Type 0 where
  pub is : x ≡ laid at xs l
  pub long : length xs ≡ n

pub first : {A : Type 0} (at n : ℕ) (xs l : List A) {x : List A} → x ≡ laid at xs l → length xs ≡ n → Has at n xs l x
first at n xs l e h = record { is = e; long = h }

-- and the m elements ys right behind them
pub more : {A : Type 0} {at n : ℕ} {xs l x y : List A} (m : ℕ) (ys : List A) → Has at n xs l x → y ≡ laid (at + n) ys x → length ys ≡ m
    → at + n + m ≤ length l
    → Has at (n + m) (xs ++ ys) l y
more {A} {at} {n} {xs} {l} m ys p e k h = record {
  is = e ∙ ap (laid (at + n) ys) p.is ∙ laid_next at n xs ys l p.long (omega arith);
  long = length-append xs ys ∙ omega (arith, p.long);
}

-- and one element, stored there
pub stored : {A : Type 0} {at n : ℕ} {xs l x : List A} (v : A) → Has at n xs l x → at + n < length l
    → Has at (n + 1) (xs ++ (v ∷ [])) l (set x (at + n) v)
stored {A} {at} {n} {xs} {l} {x} v p h =
    let e : length x ≡ length l = ap length p.is ∙ length-laid at xs l (omega (arith, p.long)) in
    more 1 (v ∷ []) p (laid_one (at + n) x v (omega arith)) refl (omega arith)
