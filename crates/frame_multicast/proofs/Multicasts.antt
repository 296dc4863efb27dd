-- The statement of specs/Multicast.antt. Assumes nothing.
use Prim.Native.Nat.{ℕ}
use mathlib.Core.Path.{refl, ap}
use mathlib.Core.List.{List}
use native.Mathlib.Omega.{arith}
use lib.ListN.{get_or}
use Rattle.frame_multicast.specs.Multicast.{Multicasts}

pub multicasts : Multicasts
multicasts = record { long = λ level. refl; apart = λ a b h k e. omega (arith, ap (λ (l : List ℕ). get_or l 5 0) e) }
