-- `frame_measures::loss_in` meets its contract: three counts, at their places.
use mathlib.Core.Path.{◌≡◌}
use mathlib.Core.List.{List}
use Prim.Native.Nat.{ℕ}
use Rattle.frame_head.specs.Head.{word}
use Rattle.frame_measures.specs.Measures.{loss_in}
use Rattle.frame_measures.proofs.loss_in.Goals as goal

-- three counts that were read are the definition's

made : (p : List ℕ) (x y z : ℕ) → x ≡ word 4 p → y ≡ word 8 p → z ≡ word 12 p → record { txfcf = x; rxfcf = y; txfcb = z } ≡ loss_in p
made p x y z e f g = cc

pub returns : goal.returns
returns c = made _ _ _ _ c.read_big.ensures.is c.read_big-2.ensures.is c.read_big-3.ensures.is
