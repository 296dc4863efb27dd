-- The seven period codes. The paper, "Numbers": a tick is 1/600 s; codes 1 to 7 and their ticks; 0 is invalid; the hold time is 3.5
-- periods. Definitions and statements only.
use Rattle.std.specs.Prelude.{ℕ, ◌*◌, ◌≤◌, ◌≡◌, List, [], ◌∷◌, ◌↔◌, get_or}
use Rattle.base_period.specs.declared.Period.{Period}

-- the ticks of codes 0 to 7; code 0 has no period
abbrev pub ticks_table : List ℕ
ticks_table = 0 ∷ 2 ∷ 6 ∷ 60 ∷ 600 ∷ 6000 ∷ 36000 ∷ 360000 ∷ []

-- their hold times
abbrev pub hold_table : List ℕ
hold_table = 0 ∷ 7 ∷ 21 ∷ 210 ∷ 2100 ∷ 21000 ∷ 126000 ∷ 1260000 ∷ []

-- the ticks of any code; past the table there is no period, 0 ticks
unfoldable pub ticks_of : ℕ → ℕ
ticks_of code = get_or ticks_table code 0

-- the hold time of any code
unfoldable pub hold_of : ℕ → ℕ
hold_of code = get_or hold_table code 0

-- one row of the two tables
abbrev pub row_of : ℕ → ℕ → Period
row_of ticks hold = record { ticks = ticks; hold = hold }

-- the period of any code
abbrev pub period_of : ℕ → Period
period_of code = row_of (ticks_of code) (hold_of code)

-- the hold time is three and a half periods, for every code; which codes have a period; the longest
pub record PeriodLaws : Type 0 where
  -- 3.5 periods, with no half in it
  pub hold_rule : (code : ℕ) → hold_of code * 2 ≡ ticks_of code * 7
  -- a code has a period exactly where it is 1 to 7
  pub some : (code : ℕ) → (1 ≤ ticks_of code) ↔ ((1 ≤ code) × (code ≤ 7))
  -- the longest
  pub ticks_most : (code : ℕ) → ticks_of code ≤ 360000
  pub hold_most : (code : ℕ) → hold_of code ≤ 1260000
