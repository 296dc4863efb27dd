-- By the side, then by the level. Assumes nothing.
use borrow.Author.Tests.{lt-ltb, le-ltb}
use Rattle.receive_class.specs.Class.{by_side}
use Rattle.receive_class.proofs.by_side.Goals as goal

pub returns-in-Passive : goal.returns-in-Passive
unfolding by_side
returns-in-Passive c = rw c.in-Passive.is

pub returns-then-theirs-ours : goal.returns-then-theirs-ours
unfolding by_side
returns-then-theirs-ours c = rw (c.in-Active.is, lt-ltb _ _ c.if-theirs-ours.true)

pub returns-else-theirs-ours : goal.returns-else-theirs-ours
unfolding by_side
returns-else-theirs-ours c = rw (c.in-Active.is, le-ltb _ _ c.if-theirs-ours.false)
