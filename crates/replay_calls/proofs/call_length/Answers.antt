-- `replay_calls::call_length` meets its contract, by its two tests.
use native.Mathlib.Omega.{arith}
use Rattle.replay_calls.proofs.RecordedCalls.{length-low, length_high, length_in}
use Rattle.replay_calls.proofs.call_length.Goals as goal

pub returns-then-length-lt2 : goal.returns-then-length-lt2
returns-then-length-lt2 c = length-low c.args.head.now c.read_little-length.ensures.is (omega arith)

pub returns-then-length-gt-MOST : goal.returns-then-length-gt-MOST
returns-then-length-gt-MOST c = length_high c.args.head.now c.read_little-length.ensures.is
    (omega arith) (omega arith)

pub returns : goal.returns
returns c = length_in c.args.head.now c.read_little-length.ensures.is
    (omega arith) (omega arith)
