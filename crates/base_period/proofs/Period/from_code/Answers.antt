-- `base_period::Period::from_code` meets its contract: each arm is its row of the tables, and every other code has no period.
use native.Mathlib.Nat.{not-le_of_lt}
use Prim.Native.Nat.{◌≤◌}
use mathlib.Core.Path.{sym, ap}
use lib.Arith.{le_of_le-suc-ne}
use Rattle.base_period.specs.Periods.{ticks_of, hold_of, period_of}
use Rattle.base_period.proofs.Laws.{none}
use Rattle.base_period.proofs.Period.from_code.Goals as goal

pub returns-in-1 : goal.returns-in-1
unfolding ticks_of hold_of
returns-in-1 c = ap period_of (sym c.in-1.is)

pub returns-in-2 : goal.returns-in-2
unfolding ticks_of hold_of
returns-in-2 c = ap period_of (sym c.in-2.is)

pub returns-in-3 : goal.returns-in-3
unfolding ticks_of hold_of
returns-in-3 c = ap period_of (sym c.in-3.is)

pub returns-in-4 : goal.returns-in-4
unfolding ticks_of hold_of
returns-in-4 c = ap period_of (sym c.in-4.is)

pub returns-in-5 : goal.returns-in-5
unfolding ticks_of hold_of
returns-in-5 c = ap period_of (sym c.in-5.is)

pub returns-in-6 : goal.returns-in-6
unfolding ticks_of hold_of
returns-in-6 c = ap period_of (sym c.in-6.is)

pub returns-in-7 : goal.returns-in-7
unfolding ticks_of hold_of
returns-in-7 c = ap period_of (sym c.in-7.is)

pub returns-in_default : goal.returns-in_default
returns-in_default c = let r = c.in_default.in_default-own.rest in
    let code = c.args.code in
    none code
    (λ h.
    let below : code ≤ 3 = le_of_le-suc-ne (le_of_le-suc-ne (le_of_le-suc-ne (le_of_le-suc-ne h.1 r.1) r.0.1) r.0.0.1)
    r.0.0.0.1 in
    let none_left : code ≤ 0 = le_of_le-suc-ne (le_of_le-suc-ne (le_of_le-suc-ne below r.0.0.0.0.1) r.0.0.0.0.0.1)
    r.0.0.0.0.0.0.1 in
    not-le_of_lt h.0 none_left)
