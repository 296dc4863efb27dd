-- `replay_calls::hands_over` meets its contract: what stands in the number's row.
use mathlib.Core.Path.{ap}
use lib.Dec.{ltb}
use native.Mathlib.Omega.{arith}
use Rattle.replay_calls.specs.RecordedCalls.{hands_over}
use Rattle.replay_calls.proofs.RecordedCalls.{row-most, place_read}
use Rattle.replay_calls.proofs.hands_over.Goals as goal

pub offset_bounds-row_of : goal.offset_bounds-row_of
offset_bounds-row_of c = omega (arith, row-most c.args.number, c.row_of.ensures)

pub bounds-row_of : goal.bounds-row_of
bounds-row_of c = omega (arith, row-most c.args.number, c.row_of.ensures)

pub returns : goal.returns
unfolding hands_over
returns c = ap (ltb 0) (place_read c.args.number c.row_of.ensures)
