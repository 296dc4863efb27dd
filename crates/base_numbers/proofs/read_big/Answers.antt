-- `base_numbers::read_big` meets its contract. The invariant: the sum is the number in the octets before this one.
use native.Mathlib.Omega.{arith}
use mathlib.Core.Path.{◌≡◌, ap, sym, ◌∙◌}
use Prim.Native.Nat.{ℕ, ◌+◌, ◌*◌, ◌-◌, ◌≤◌}
use lib.ListN.{get_or, take, drop}
use lib.Seq.{take_all}
use Rattle.base_numbers.specs.Numbers.{number, big_endian}
use Rattle.base_numbers.proofs.Turns.{big_none, big_turn, more-below, most-below, items_part, items-long, items-octets}
use Rattle.base_numbers.proofs.read_big.Goals as goal

pub loop-octet-init : goal.loop-octet-init
loop-octet-init c = record { sum = big_none; small = omega arith }

pub overflow_mul-sum : goal.overflow_mul-sum
overflow_mul-sum c = let l = c.loop-octet in
    let a = c.args in
    let few : l.octet-index + 1 ≤ 4 = omega (arith, items-long a.at a.n a.from.now (omega arith)) in
    omega (arith, more-below l.octet-index l.sum 0 l.invariant.small (omega arith), most-below (l.octet-index + 1) few)

pub loop-octet-preserved : goal.loop-octet-preserved
loop-octet-preserved c = let l = c.loop-octet in
    let a = c.args in
    let xs = take (a.at + a.n - a.at) (drop a.at a.from.now) in
    let x = get_or xs l.octet-index 0 in
    record {
      sum = ap (λ (k : ℕ). k * 256 + x) l.invariant.sum ∙ sym (big_turn xs l.octet-index (omega arith));
      small = more-below l.octet-index l.sum x l.invariant.small
          (items-octets a.at a.n a.from.now (λ i. (c.type_inv.from i).fits) l.octet-index);
    }

pub returns : goal.returns
returns c = let l = c.loop-octet in
    let a = c.args in
    let xs = take (a.at + a.n - a.at) (drop a.at a.from.now) in
    let e : l.octet-index ≡ a.n = omega (arith, items-long a.at a.n a.from.now (omega arith)) in
    record {
      is = l.invariant.sum ∙ ap (number big_endian) (take_all l.octet-index xs (omega arith) ∙ items_part a.at a.n a.from.now);
      small = rw e at l.invariant.small;
    }
