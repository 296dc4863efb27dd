-- `replay_calls::room_of` meets its contract, by its three tests.
use native.Mathlib.Omega.{arith}
use mathlib.Core.Path.{◌≡◌, ap, ◌∙◌}
use Prim.Native.Nat.{◌<◌}
use mathlib.Core.List.{[], ◌∷◌, ◌++◌}
use lib.ListN.{get_or}
use Rattle.replay_calls.specs.RecordedCalls.{places, place_of, front_number}
use Rattle.replay_calls.proofs.RecordedCalls.{row-most, place_read, room_cut, room-none, room-short, room-there}
use Rattle.replay_calls.proofs.room_of.Goals as goal

pub returns-then-call-lt2 : goal.returns-then-call-lt2
returns-then-call-lt2 c = room_cut c.args.call.now (omega arith)

pub offset_bounds-row_of : goal.offset_bounds-row_of
offset_bounds-row_of c = omega (arith, row-most c.read_little.result, c.row_of.ensures)

pub bounds-row_of : goal.bounds-row_of
bounds-row_of c = omega (arith, row-most c.read_little.result, c.row_of.ensures)

pub returns-then-place-eq0 : goal.returns-then-place-eq0
returns-then-place-eq0 c =
    let place : get_or (places ++ (0 ∷ [])) c.row_of.result 0 ≡ place_of (front_number c.args.call.now) = place_read c.read_little.result c.row_of.ensures ∙ ap place_of c.read_little.ensures.is in
    room-none c.args.call.now (omega arith) place c.if-place-eq0.true

pub returns-then-call-place : goal.returns-then-call-place
returns-then-call-place c =
    let place : get_or (places ++ (0 ∷ [])) c.row_of.result 0 ≡ place_of (front_number c.args.call.now) = place_read c.read_little.result c.row_of.ensures ∙ ap place_of c.read_little.ensures.is in
    room-short c.args.call.now (omega arith) place
    c.if-place-eq0.false c.if-call-place.true

pub returns : goal.returns
returns c =
    let place : get_or (places ++ (0 ∷ [])) c.row_of.result 0 ≡ place_of (front_number c.args.call.now) = place_read c.read_little.result c.row_of.ensures ∙ ap place_of c.read_little.ensures.is in
    c.read_little-2.ensures.is
    ∙ room-there c.args.call.now (omega arith) place
    c.if-place-eq0.false c.if-call-place.false
