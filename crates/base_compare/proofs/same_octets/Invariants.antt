-- `base_compare::same_octets` meets its contract. The invariant: what was found so far, and the pairs that are left, decide as all do.
use lib.ListN.{length}
use mathlib.Core.Path.{◌≡◌}
use mathlib.Core.Bool.{◌&&◌}
use Rattle.std.specs.Slice.Iter.{iter_rest}
use Rattle.std.specs.Iterator.Adapters.{zip_first, zip_second}
use Rattle.base_laws.specs.Lists.{same}
use Rattle.base_compare.proofs.same_octets.Given as goal

abbrev pub invariant-loop-x : goal.invariant-loop-x
invariant-loop-x l =
    let x = iter_rest (zip_first l.x-iterator) in
    let y = iter_rest (zip_second l.x-iterator) in
    record { long : length x ≡ length y; rest : same l.a l.b ≡ (l.good && same x y) }
