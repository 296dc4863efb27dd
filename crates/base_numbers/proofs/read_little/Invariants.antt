-- `base_numbers::read_little` meets its contract. The invariant: the sum is the number in the octets done, which stand behind those left.
use mathlib.Core.Path.{◌≡◌}
use mathlib.Core.List.{List, ◌++◌}
use Prim.Native.Nat.{ℕ, ◌^◌, ◌<◌}
use lib.ListN.{length}
use Rattle.std.specs.Slice.Iter.{iter_rest}
use Rattle.std.specs.Iterator.Adapters.{rev_source}
use Rattle.base_laws.specs.Lists.{part}
use Rattle.base_numbers.specs.Numbers.{number, little_endian}
use Rattle.base_numbers.proofs.read_little.Given as goal

abbrev pub invariant-loop-lower : goal.invariant-loop-lower
invariant-loop-lower l = record {
  done : List ℕ;
  all : part l.at l.n l.from ≡ iter_rest (rev_source l.lower-iterator) ++ done;
  sum : l.sum ≡ number little_endian done;
  small : l.sum < 256 ^ length done;
}
