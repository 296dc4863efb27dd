-- Where the first x is: by what `position` gives as by `place_of`. Assumes nothing.
use Prim.Native.Nat.{ℕ}
use mathlib.Core.Path.{◌≡◌, refl}
use mathlib.Core.List.{List}
use native.Mathlib.Omega.{arith}
use Rattle.std.proofs.Common.{rules}
use lib.Dec.{eqb}
use lib.ListN.{length}
use Rattle.std.specs.List.{position, position_or_len}
use Rattle.std.specs.Option.{unwrap_or}
use Rattle.std.proofs.lemmas.List.Recursion.{is_position_or_len}
use Rattle.std.proofs.lemmas.List.Sums.{prefix_len-le-length}
use Rattle.std.proofs.lemmas.Grind.{common_steps}
use Rattle.base_laws.specs.Lists.{place_of}

first-place : (x : ℕ) (l : List ℕ) → place_of x l ≡ position_or_len (λ y. eqb y x) l
unfolding place_of
first-place x l = is_position_or_len (place_of x) (λ y. eqb y x) refl (λ y m. search rules) l

pub place_given : (x : ℕ) (l : List ℕ) → unwrap_or (position (λ y. eqb y x) l) (length l) ≡ place_of x l
place_given x l = grind (arith, common_steps, first-place, prefix_len-le-length)
