-- The paper's numbers for each case of an answer on a value. Definitions and the statement only.
use Rattle.std.specs.Prelude.{ℕ, ◌≡◌, Bool, true, false, Option, Some, None, Result, Ok, Err}
use Rattle.frame_reader_answer.specs.Told.{bad_of}
use Rattle.frame_reader_answer.specs.declared.Bad.{Bad}
use Rattle.frame_value.specs.declared.ValueTold.{ValueTold}

abbrev pub tell_value : ℕ → ℕ → ℕ → ℕ → ValueTold
tell_value refusal drop value holds = record { refusal = refusal; drop = drop; value = value; holds = holds }

unfoldable pub value_told : Result (Option Bool) Bad → ValueTold
value_told (Ok (Some true)) = tell_value 0 0 1 1
value_told (Ok (Some false)) = tell_value 0 0 1 0
value_told (Ok None) = tell_value 0 0 0 0
value_told (Err b) = tell_value (bad_of b).refusal (bad_of b).drop 0 0

-- no two answers on a value have the same numbers
pub record ValueNumbers : Type 0 where
  -- no two have the same numbers
  pub apart : (a b : Result (Option Bool) Bad) → value_told a ≡ value_told b → a ≡ b
