-- The place of a number, looked for from where it is, as the slot of a peer's MEP ID. Assumes nothing.
use Prim.Native.Nat.{ℕ, ◌<◌}
use mathlib.Core.Path.{◌≡◌}
use mathlib.Core.List.{List}
use lib.ListN.{length, get_or, drop}
use lib.Seq.{drop-cons}
use borrow.Author.Tests.{eq-eqb}
use Rattle.base_laws.specs.Lists.{place_of}

pub place_found : (x : ℕ) (l : List ℕ) (i : ℕ) → i < length l → get_or l i 0 ≡ x → place_of x (drop i l) ≡ 0
unfolding place_of
place_found x l i h e = rw (drop-cons l i 0 h, eq-eqb (get_or l i 0) x e)
