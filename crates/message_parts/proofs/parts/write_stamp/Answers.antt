-- `message_parts::parts::write_stamp` meets its contract: the seconds are laid, and the nanoseconds behind them.
use native.Mathlib.Omega.{arith}
use Rattle.message_parts.proofs.Laid.{stamp-laid}
use Rattle.message_parts.proofs.parts.write_stamp.Goals as goal

pub returns : goal.returns
returns c = let second = c in
    let one = c in
    let a = c.args in
    stamp-laid a.at a.stamp a.into.now (omega arith) one.write_big.ensures second.write_big-2.ensures
