-- `base_number_write::put_before` meets its contract: nothing without room, or the digits of the size, and the sign's octets in front.
use mathlib.Core.Logic.{inl, inr}
use mathlib.Core.Path.{◌≡◌, sym}
use mir.Syntax.{w64}
use mir.Val.{to_z, of_z}
use Rattle.base_number_text.proofs.Before.{before-untouched}
use Rattle.base_number_text.proofs.Decimal.{size_small}
use native.Mathlib.Omega.{arith}
use Rattle.base_number_write.proofs.Putting.{sign_within, put_so}
use borrow.Author.Rules.{rules}
use Rattle.base_number_write.proofs.put_before.Goals as goal

pub returns-then-end-lt-LONGEST : goal.returns-then-end-lt-LONGEST
returns-then-end-lt-LONGEST c =
    let a = c.args in
    let u = before-untouched a.end a.value a.into.now (inl c.if-end-lt-LONGEST.true) in
    (sym u.0, sym u.1)

pub returns-then-into-end : goal.returns-then-into-end
returns-then-into-end c =
    let a = c.args in
    let u = before-untouched a.end a.value a.into.now (inr c.if-into-end.true) in
    (sym u.0, sym u.1)

pub digits_before-requires : goal.digits_before-requires
digits_before-requires c =
    let back : to_z w64 (of_z w64 c.args.value) ≡ c.args.value = search rules in
    let s = c in
    rw (c.unsigned_abs.ensures.value, back) (size_small s.args.value c.ranges.value, omega arith, omega arith)

pub overflow_sub-result : goal.overflow_sub-result
overflow_sub-result c =
    let back : to_z w64 (of_z w64 c.args.value) ≡ c.args.value = search rules in
    let s = c in
    let a = s.args in
    sign_within a.end a.value a.into.now c.ranges.value (omega arith) (omega arith) back _ _
    c.unsigned_abs.ensures.value c.sign_of.ensures c.digits_before.ensures

pub returns : goal.returns
returns c =
    let back : to_z w64 (of_z w64 c.args.value) ≡ c.args.value = search rules in
    let s = c in
    let a = s.args in
    put_so a.end a.value a.into.now c.ranges.value (omega arith) (omega arith) back _ _
    c.unsigned_abs.ensures.value c.sign_of.ensures c.digits_before.ensures
