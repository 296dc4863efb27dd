-- `replay_good_calls::side_good` meets its contract, by its two tests.
use native.Mathlib.Omega.{arith}
use Rattle.replay_good_calls.proofs.GoodCalls.{side-other, side_cut, side-there}
use Rattle.replay_good_calls.proofs.side_good.Goals as goal

pub returns-then-number-ne-FRAME : goal.returns-then-number-ne-FRAME
returns-then-number-ne-FRAME c = side-other c.args.call.now c.args.number c.if-number-ne-FRAME.true

pub returns-then-call-lt3 : goal.returns-then-call-lt3
returns-then-call-lt3 c = side_cut c.args.call.now c.args.number (omega arith) (omega arith)

pub returns : goal.returns
returns c = side-there c.args.call.now c.args.number (omega arith) (omega arith)
