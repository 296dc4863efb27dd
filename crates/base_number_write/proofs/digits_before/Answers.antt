-- `base_number_write::digits_before` meets its contract. The loop's invariant: the last digits are laid, and `rest` is the size without
-- them. The measure is `rest`.
use native.Mathlib.Omega.{arith}
use Prim.Native.Nat.{◌≤◌}
use lib.ListN.{length}
use Rattle.base_number_text.specs.Decimal.{digits_of}
use Rattle.base_number_text.proofs.Decimal.{most}
use Rattle.base_number_write.proofs.Turns.{writing_start, writing_room, writing_next, writing_end, begins, begins-behind}
use Rattle.base_number_write.proofs.digits_before.Goals as goal

pub loop-rest-init : goal.loop-rest-init
loop-rest-init c = let a = c.args in writing_start a.end a.size a.into.now

-- wherever the loop stands, there is room for two digits more

pub overflow_sub-at : goal.overflow_sub-at
overflow_sub-at c =
    let few : length (digits_of c.args.size) ≤ 19 = most c.args.size 19 c.requires.0 (omega arith) in
    writing_room c.loop-rest.invariant few c.requires.1 c.requires.2

pub overflow_sub-at-2 : goal.overflow_sub-at-2
overflow_sub-at-2 c =
    let few : length (digits_of c.args.size) ≤ 19 = most c.args.size 19 c.requires.0 (omega arith) in
    writing_room c.loop-rest.invariant few c.requires.1 c.requires.2

pub overflow_sub-into : goal.overflow_sub-into
overflow_sub-into c =
    let few : length (digits_of c.args.size) ≤ 19 = most c.args.size 19 c.requires.0 (omega arith) in
    let s = c in
    let w = c.loop-rest.invariant in
    omega (arith, begins-behind w few s.requires.1 s.requires.2, c.count_digits.ensures)

pub overflow_sub-begin : goal.overflow_sub-begin
overflow_sub-begin c =
    let few : length (digits_of c.args.size) ≤ 19 = most c.args.size 19 c.requires.0 (omega arith) in
    omega (arith, begins-behind c.loop-rest.invariant few c.requires.1 c.requires.2, c.count_digits.ensures)

pub put_pair-requires : goal.put_pair-requires
put_pair-requires c =
    let few : length (digits_of c.args.size) ≤ 19 = most c.args.size 19 c.requires.0 (omega arith) in
    let room : 2 ≤ c.loop-rest.at = let s = c in writing_room c.loop-rest.invariant few s.requires.1 s.requires.2 in
    let l = c in
    (omega arith, omega (arith, room, l.loop-rest.invariant.same, l.loop-rest.invariant.reach))

pub loop-rest-preserved : goal.loop-rest-preserved
loop-rest-preserved c =
    let few : length (digits_of c.args.size) ≤ 19 = most c.args.size 19 c.requires.0 (omega arith) in
    let s = c in
    writing_next c.loop-rest.invariant few s.requires.1 s.requires.2 (omega arith)
    c.put_pair.ensures

pub put_pair-requires-2 : goal.put_pair-requires-2
put_pair-requires-2 c =
    let few : length (digits_of c.args.size) ≤ 19 = most c.args.size 19 c.requires.0 (omega arith) in
    let room : 2 ≤ c.loop-rest.at = let s = c in writing_room c.loop-rest.invariant few s.requires.1 s.requires.2 in
    let l = c in
    (omega arith, omega (arith, room, l.loop-rest.invariant.same, l.loop-rest.invariant.reach))

pub bounds-into-begin : goal.bounds-into-begin
bounds-into-begin c = let w = c.loop-rest.invariant in omega (arith, w.reach, w.same)

pub returns : goal.returns
returns c =
    let few : length (digits_of c.args.size) ≤ 19 = most c.args.size 19 c.requires.0 (omega arith) in
    let s = c in
    let w = c.loop-rest.invariant in
    rw c.count_digits.ensures (
      begins w few s.requires.1 s.requires.2,
      begins-behind w few s.requires.1 s.requires.2,
      writing_end w few s.requires.1 s.requires.2 (omega arith) c.put_pair-2.ensures,
    )
