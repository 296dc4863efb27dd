-- What the length of a frame tells of its head. Assumes nothing.
use Prim.Native.Nat.{ℕ, ◌≤◌}
use mathlib.Core.Path.{◌≡◌}
use mathlib.Core.Bool.{true}
use mathlib.Core.List.{List}
use lib.Dec.{leb}
use lib.ListN.{length}
use borrow.Author.Tests.{leb-true}
use Rattle.base_laws.proofs.Tests.{both_true}
use Rattle.frame_head.specs.Head.{head_length, is_oam, length_good, oam_frame}

module _ (f : List ℕ) (good : length_good f ≡ true) where
  -- a frame of a good length has a head
  pub headed : head_length ≤ length f
  headed = leb-true 14 (length f) ((both_true (leb 14 (length f)) (leb (length f) 1514)).0 good).0

  -- so its EtherType alone decides
  pub oam-is : oam_frame f ≡ is_oam f
  oam-is = rw ((both_true (leb 14 (length f)) (leb (length f) 1514)).0 good).0
