-- `base_number_write::write_decimal` meets its contract: the text is made at the end of twenty octets, and copied where it fits.
use mathlib.Core.Path.{◌≡◌, refl}
use Prim.Native.Nat.{◌≤◌}
use lib.ListN.{replicate}
use mir.Syntax.{w64}
use mir.Val.{to_z, of_z}
use native.Mathlib.Omega.{arith}
use Rattle.base_number_write.proofs.Putting.{made_begins, made_nothing, made_copied}
use borrow.Author.Rules.{rules}
use Rattle.base_number_write.proofs.write_decimal.Goals as goal

pub overflow_sub-count : goal.overflow_sub-count
overflow_sub-count c =
    let back : to_z w64 (of_z w64 c.args.value) ≡ c.args.value = search rules in
    let begins : c.put_before-begin.result ≤ 20 = let s = c in
    omega (arith, made_begins s.args.value c.ranges.value back (replicate 20 0) refl c.put_before-begin.ensures) in
    begins

pub returns-then-all-at : goal.returns-then-all-at
returns-then-all-at c =
    let back : to_z w64 (of_z w64 c.args.value) ≡ c.args.value = search rules in
    let s = c in
    made_nothing s.args.value c.ranges.value back (replicate 20 0) refl c.put_before-begin.ensures
    s.args.at s.args.into.now (omega arith)

pub returns-then-all-at-2 : goal.returns-then-all-at-2
returns-then-all-at-2 c =
    let back : to_z w64 (of_z w64 c.args.value) ≡ c.args.value = search rules in
    let s = c in
    made_nothing s.args.value c.ranges.value back (replicate 20 0) refl c.put_before-begin.ensures
    s.args.at s.args.into.now (omega arith)

pub slice_bounds-copy_octets-count : goal.slice_bounds-copy_octets-count
slice_bounds-copy_octets-count c =
    let back : to_z w64 (of_z w64 c.args.value) ≡ c.args.value = search rules in
    let begins : c.put_before-begin.result ≤ 20 = let s = c in
    omega (arith, made_begins s.args.value c.ranges.value back (replicate 20 0) refl c.put_before-begin.ensures) in
    begins

pub slice_bounds-copy_octets-start : goal.slice_bounds-copy_octets-start
slice_bounds-copy_octets-start c =
    let back : to_z w64 (of_z w64 c.args.value) ≡ c.args.value = search rules in
    let begins : c.put_before-begin.result ≤ 20 = let s = c in
    omega (arith, made_begins s.args.value c.ranges.value back (replicate 20 0) refl c.put_before-begin.ensures) in
    begins

pub returns : goal.returns
returns c =
    let back : to_z w64 (of_z w64 c.args.value) ≡ c.args.value = search rules in
    let s = c in
    made_copied s.args.value c.ranges.value back (replicate 20 0) refl c.put_before-begin.ensures
    s.args.at s.args.into.now _ (omega arith) c.copy_octets.ensures
