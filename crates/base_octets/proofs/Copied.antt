-- A part of a buffer written anew, as the check says it and as `laid` does. Assumes nothing.
use Prim.Native.Nat.{ℕ, ◌+◌}
use mathlib.Core.Path.{◌≡◌, sym}
use mathlib.Core.List.{List, append_assoc}
use lib.ListN.{length, take, drop}
use Rattle.std.proofs.lemmas.List.{drop-drop}
use borrow.Rule.Slice.PartMut.{put_mid}
use Rattle.base_laws.specs.Lists.{laid}

pub laid_over : {A : Type 0} (at k : ℕ) (xs ys l : List A) → k ≡ length xs → ys ≡ xs → put_mid at k l ys ≡ laid at xs l
unfolding laid
laid_over at k xs ys l e h = rw (h, e, drop-drop (length xs) at l) (sym (append_assoc (take at l) xs (drop (at + length xs) l)))
