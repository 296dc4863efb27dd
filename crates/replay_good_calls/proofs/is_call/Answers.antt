-- `replay_good_calls::is_call` meets its contract: four tests joined.
use Prim.Native.Nat.{◌-◌, ◌<◌}
use mathlib.Core.Path.{ap, ◌∙◌}
use mathlib.Core.Bool.{Bool, ◌&&◌}
use native.Mathlib.Omega.{arith}
use lib.Dec.{leb}
use lib.ListN.{length}
use Rattle.replay_calls.proofs.RecordedCalls.{row-most}
use Rattle.replay_good_calls.proofs.GoodCalls.{body_read, call_cut, call-is}
use Rattle.replay_good_calls.proofs.is_call.Goals as goal

pub returns-then-call-lt2 : goal.returns-then-call-lt2
returns-then-call-lt2 c = call_cut c.args.call.now (omega arith)

-- the row of the call's number is in the table

pub bounds-row : goal.bounds-row
bounds-row c = omega (arith, row-most c.read_little-number.result, c.row_of-row.ensures)

pub bounds-row-2 : goal.bounds-row-2
bounds-row-2 c = omega (arith, row-most c.read_little-number.result, c.row_of-row.ensures)

pub offset_bounds-row : goal.offset_bounds-row
offset_bounds-row c = omega (arith, row-most c.read_little-number.result, c.row_of-row.ensures)

pub offset_bounds-row-2 : goal.offset_bounds-row-2
offset_bounds-row-2 c = omega (arith, row-most c.read_little-number.result, c.row_of-row.ensures)

pub returns : goal.returns
returns c = let call = c.args.call.now in
    let row = c in
    let number = row.read_little-number in
    ap (λ (b : Bool). b && c.side_good-side.result && leb c.room_of-room.result 1600)
    (body_read number.result row.row_of-row.ensures (length call - 2))
    ∙ rw (c.room_of-room.ensures, c.side_good-side.ensures, number.ensures.is) (call-is call (omega arith))
