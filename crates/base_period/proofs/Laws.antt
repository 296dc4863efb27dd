-- The statements of specs/Periods.antt, each by one test that is computed over the whole table. Assumes nothing.
use Prim.Native.Nat.{ℕ, zero, suc, ◌*◌, ◌≤◌}
use mathlib.Core.Path.{◌≡◌, refl, ap₂}
use mathlib.Core.Bool.{Bool}
use mathlib.Core.Logic.{◌↔◌, ⊎_elim}
use native.Mathlib.Omega.{arith}
use lib.Dec.{eqb, leb}
use lib.ListN.{drop, get_or-eq_default}
use borrow.Author.Tests.{eqb-true, leb-true, leb-false}
use Rattle.base_laws.specs.Lists.{every, every_pair}
use Rattle.base_laws.proofs.Everywhere.{pair_anywhere, every_anywhere, every_is}
use Rattle.base_laws.proofs.Tests.{known}
use Rattle.base_period.specs.Periods.{ticks_table, hold_table, ticks_of, hold_of, row_of, period_of, PeriodLaws}

-- the rule at one row of the two tables
ruled : ℕ → ℕ → Bool
ruled ticks hold = eqb (hold * 2) (ticks * 7)

pub hold_rule : (code : ℕ) → hold_of code * 2 ≡ ticks_of code * 7
unfolding ticks_of hold_of every_pair ruled
hold_rule code = eqb-true (hold_of code * 2) (ticks_of code * 7) (pair_anywhere ruled ticks_table hold_table 0 0 refl refl code)

pub ticks_most : (code : ℕ) → ticks_of code ≤ 360000
unfolding ticks_of every
ticks_most code = leb-true (ticks_of code) 360000 (every_anywhere (λ t. leb t 360000) ticks_table 0 refl refl code)

pub hold_most : (code : ℕ) → hold_of code ≤ 1260000
hold_most code = omega (arith, hold_rule code, ticks_most code)

-- past the table there is no period, and code 0 has none
some_to : (code : ℕ) → 1 ≤ ticks_of code → (1 ≤ code) × (code ≤ 7)
unfolding ticks_of
some_to zero h = absurd (omega arith)
some_to (suc code) h = (
  omega arith,
  ⊎_elim (λ far. absurd (omega (arith, get_or-eq_default ticks_table 0 {n = suc code} (leb-true 8 (suc code) far))))
      (λ near. omega (arith, leb-false 8 (suc code) near)) (known (leb 8 (suc code))),
)

some-from : (code : ℕ) → 1 ≤ code → code ≤ 7 → 1 ≤ ticks_of code
unfolding ticks_of every
some-from zero h k = absurd (omega arith)
some-from (suc code) h k = leb-true 1 (ticks_of (suc code)) ((every_is (λ t. leb 1 t) (drop 1 ticks_table) 0).0 refl code (omega arith))

pub some : (code : ℕ) → (1 ≤ ticks_of code) ↔ ((1 ≤ code) × (code ≤ 7))
some code = (some_to code, λ h. some-from code h.0 h.1)

-- any other code has no period
pub none : (code : ℕ) → ((1 ≤ code) × (code ≤ 7) → ⊥) → row_of 0 0 ≡ period_of code
none code h =
    let ticks : 0 ≡ ticks_of code = ⊎_elim (λ t. absurd (h ((some code).0 (leb-true 1 (ticks_of code) t))))
    (λ f. omega (arith, leb-false 1 (ticks_of code) f)) (known (leb 1 (ticks_of code))) in
    let hold : 0 ≡ hold_of code = omega (arith, hold_rule code) in
    ap₂ row_of ticks hold

pub period_laws : PeriodLaws
period_laws =
    record {
      hold_rule = λ code. omega (arith, hold_rule code);
      some = some;
      ticks_most = λ code. omega (arith, ticks_most code);
      hold_most = λ code. omega (arith, hold_most code);
    }
