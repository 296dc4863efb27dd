-- Seconds, then nanoseconds. Assumes nothing.
use Prim.Native.Nat.{ℕ, ◌+◌}
use mathlib.Core.List.{List}
use mathlib.Core.Path.{◌≡◌, refl}
use Rattle.frame_head.specs.Head.{word}
use Rattle.frame_measures.specs.Measures.{stamp}
use Rattle.receive_handle.proofs.stamp_at.Goals as goal

-- two words that were read are the stamp

made : (p : List ℕ) (at s n : ℕ) → s ≡ word at p → n ≡ word (at + 4) p → record { seconds = s; nanoseconds = n } ≡ stamp at p
made p at s n es en = rw (es, en) refl

pub returns : goal.returns
returns c = made c.args.pdu.now c.args.at _ _ c.read_big.ensures.is
    c.read_big-2.ensures.is
