-- `base_numbers::read_big` meets its contract. The invariant: the sum is the number in the octets before this one.
use mathlib.Core.Path.{◌≡◌}
use Prim.Native.Nat.{◌^◌, ◌<◌}
use lib.ListN.{take}
use Rattle.base_numbers.specs.Numbers.{number, big_endian}
use Rattle.base_numbers.proofs.read_big.Given as goal

abbrev pub invariant-loop-octet : goal.invariant-loop-octet
invariant-loop-octet l = record {
  sum : l.sum ≡ number big_endian (take l.octet-index l.octet-items);
  small : l.sum < 256 ^ l.octet-index;
}
