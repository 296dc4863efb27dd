-- `base_numbers::write_big` meets its contract. The invariant: the octets from i on are laid, and `rest` is the value without them.
use mathlib.Core.Path.{◌≡◌}
use Prim.Native.Nat.{◌+◌, ◌/◌, ◌^◌, ◌-◌, ◌≤◌}
use Rattle.base_laws.specs.Lists.{laid}
use Rattle.base_numbers.specs.Numbers.{in_octets, big_endian}
use Rattle.base_numbers.proofs.write_big.Given as goal

abbrev pub invariant-loop-i : goal.invariant-loop-i
invariant-loop-i l =
    let k = l.at + l.n - l.i in
    record {
      low : l.at ≤ l.i;
      high : l.i ≤ l.at + l.n;
      laid : l.into ≡ laid l.i (in_octets big_endian k l.value) l.initial.into;
      rest : l.rest ≡ l.value / 256 ^ k;
    }
