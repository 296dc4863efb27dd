-- Octets that are written out are octets, as a test tells. Assumes nothing.
use Prim.Native.Nat.{ℕ, zero, suc}
use mathlib.Core.Path.{◌≡◌}
use mathlib.Core.Bool.{true}
use mathlib.Core.List.{List, [], ◌∷◌}
use native.Mathlib.Omega.{arith}
use lib.Dec.{ltb}
use borrow.Author.Tests.{ltb-true}
use Rattle.base_laws.specs.Lists.{every}
use Rattle.base_laws.proofs.Tests.{split}
use Rattle.base_octets.specs.Octets.{Octets}

pub octets-of : (xs : List ℕ) → every (λ x. ltb x 256) xs ≡ true → Octets xs
unfolding every
octets-of [] e i = omega arith
octets-of (x ∷ xs) e zero = ltb-true x 256 (split (ltb x 256) (every (λ y. ltb y 256) xs) e).0
octets-of (x ∷ xs) e (suc i) = octets-of xs (split (ltb x 256) (every (λ y. ltb y 256) xs) e).1 i
