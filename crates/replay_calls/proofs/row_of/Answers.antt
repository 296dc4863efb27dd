-- `replay_calls::row_of` meets its contract, by its two tests.
use native.Mathlib.Omega.{arith}
use Rattle.replay_calls.proofs.RecordedCalls.{row_below, row-above, row_in}
use Rattle.replay_calls.proofs.row_of.Goals as goal

pub returns-then-number-lt-FIRST : goal.returns-then-number-lt-FIRST
returns-then-number-lt-FIRST c = row_below c.args.number (omega arith)

pub returns-then-number-gt-LAST : goal.returns-then-number-gt-LAST
returns-then-number-gt-LAST c = row-above c.args.number (omega arith) (omega arith)

pub returns : goal.returns
returns c = row_in c.args.number (omega arith) (omega arith)
