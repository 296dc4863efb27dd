-- The three stamps, where they are there, and the rule behind them. Assumes nothing.
use borrow.Author.Tests.{lt-ltb, le-ltb}
use Rattle.receive_handle.proofs.delays_in.Goals as goal

pub returns-then-pdu-lt28 : goal.returns-then-pdu-lt28
returns-then-pdu-lt28 c = rw (lt-ltb _ 28 c.if-pdu-lt28.true)

pub returns : goal.returns
returns c = rw (
  le-ltb _ 28 c.if-pdu-lt28.false,
  c.measure_delay.ensures.0,
  c.stamp_at.ensures,
  c.stamp_at-2.ensures,
  c.stamp_at-3.ensures,
)
