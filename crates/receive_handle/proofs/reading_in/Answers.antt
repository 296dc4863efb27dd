-- The three counts, where they are there. Assumes nothing.
use mathlib.Core.Path.{◌≡◌, sym, ◌∙◌}
use mathlib.Core.List.{List}
use Prim.Native.Nat.{ℕ}
use borrow.Author.Tests.{lt-ltb, le-ltb}
use Rattle.frame_head.specs.Head.{word}
use Rattle.receive_change.specs.declared.Change.TheVariants as change
use Rattle.receive_handle.specs.Handle.{reading_in}
use Rattle.receive_handle.specs.declared.Decision.TheVariants.{Changes}
use Rattle.receive_handle.proofs.reading_in.Goals as goal

-- three counts that were read are the definition's

made : (p : List ℕ) (x y z : ℕ) → x ≡ word 4 p → y ≡ word 8 p → z ≡ word 12 p → Changes (change.Reading x y z) ≡ Changes (reading_in p)
made p x y z e f g = rw (e, f, g)

pub returns-then-pdu-lt16 : goal.returns-then-pdu-lt16
returns-then-pdu-lt16 c = rw (lt-ltb _ 16 c.if-pdu-lt16.true)

pub returns : goal.returns
returns c = made _ _ _ _ c.read_big.ensures.is c.read_big-2.ensures.is c.read_big-3.ensures.is
    ∙ sym (rw (le-ltb _ 16 c.if-pdu-lt16.false))
