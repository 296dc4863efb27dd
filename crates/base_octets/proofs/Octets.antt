-- What stays octets: parts, runs side by side, the other way round. Assumes nothing.
use Prim.Native.Nat.{ℕ, zero, suc, ◌+◌}
use mathlib.Core.List.{List, [], ◌∷◌, ◌++◌, reverse, reverse-cons}
use native.Mathlib.Omega.{arith}
use lib.ListN.{take, drop}
use lib.Seq.{get_or-drop}
use Rattle.base_laws.specs.Lists.{part}
use Rattle.base_octets.specs.Octets.{Octets}

pub tail_octets : (x : ℕ) (xs : List ℕ) → Octets (x ∷ xs) → Octets xs
tail_octets x xs h i = h (suc i)

append-octets : (xs ys : List ℕ) → Octets xs → Octets ys → Octets (xs ++ ys)
append-octets [] ys h k i = k i
append-octets (x ∷ xs) ys h k zero = h 0
append-octets (x ∷ xs) ys h k (suc i) = append-octets xs ys (tail_octets x xs h) k i

pub reverse-octets : (xs : List ℕ) → Octets xs → Octets (reverse xs)
reverse-octets [] h i = h i
reverse-octets (x ∷ xs) h i =
    rw (reverse-cons x xs) (append-octets (reverse xs) (x ∷ []) (reverse-octets xs (tail_octets x xs h)) one i)
  where
    one : Octets (x ∷ [])
    one zero = h 0
    one (suc i) = omega arith

take-octets : (n : ℕ) (xs : List ℕ) → Octets xs → Octets (take n xs)
take-octets zero xs h i = omega arith
take-octets (suc n) [] h i = h i
take-octets (suc n) (x ∷ xs) h zero = h 0
take-octets (suc n) (x ∷ xs) h (suc i) = take-octets n xs (tail_octets x xs h) i

pub part-octets : (at n : ℕ) (s : List ℕ) → Octets s → Octets (part at n s)
unfolding part
part-octets at n s h = take-octets n (drop at s) (λ k. rw (get_or-drop at s k 0) (h (at + k)))
