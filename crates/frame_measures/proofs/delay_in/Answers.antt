-- `frame_measures::delay_in` meets its contract: three stamps, at their places.
use mathlib.Core.Path.{◌≡◌}
use mathlib.Core.List.{List}
use Prim.Native.Nat.{ℕ}
use Rattle.frame_head.specs.Head.{word}
use Rattle.frame_measures.specs.Measures.{delay_in}
use Rattle.frame_measures.proofs.delay_in.Goals as goal

-- three stamps that were read are the definition's

made : (p : List ℕ) (a b c d e f : ℕ) → a ≡ word 4 p → b ≡ word 8 p → c ≡ word 12 p → d ≡ word 16 p → e ≡ word 20 p → f ≡ word 24 p
    → record {
      txtimestampf = record { seconds = a; nanoseconds = b };
      rxtimestampf = record { seconds = c; nanoseconds = d };
      txtimestampb = record { seconds = e; nanoseconds = f };
    } ≡ delay_in p
made p a b c d e f h i j k l m = cc

pub returns : goal.returns
returns c = made _ _ _ _ _ _ _ c.read_big.ensures.is c.read_big-2.ensures.is
    c.read_big-3.ensures.is c.read_big-4.ensures.is
    c.read_big-5.ensures.is c.read_big-6.ensures.is
