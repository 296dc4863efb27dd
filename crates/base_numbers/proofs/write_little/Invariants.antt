-- `base_numbers::write_little` meets its contract. The invariant: all octets before this one are written, and `rest` is what is left.
use mathlib.Core.Path.{◌≡◌}
use Prim.Native.Nat.{◌/◌, ◌^◌}
use lib.ListN.{take}
use Rattle.base_numbers.specs.Numbers.{in_octets, little_endian}
use Rattle.base_numbers.proofs.write_little.Given as goal

abbrev pub invariant-loop-octet : goal.invariant-loop-octet
invariant-loop-octet l = record {
  written : take l.octet-index l.octet-items ≡ in_octets little_endian l.octet-index l.value;
  rest : l.rest ≡ l.value / 256 ^ l.octet-index;
}
