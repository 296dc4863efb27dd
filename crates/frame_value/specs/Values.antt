-- What the value of a data TLV or of a test TLV is tested for. The paper, on forms: a TLV's value comes back as a part of the caller's
-- slice, for data and test checks. The standard, figures 9.3-3 and 9.3-4: the value of a data TLV is free; that of a test TLV begins with
-- its pattern type, and type 0 is a run of zeros without check sequence. Definitions only.
use Rattle.std.specs.Prelude.{false, true, ℕ, List, Bool, ◌&&◌, cond, eqb, ltb, length, Result, Ok, Err, Option, Some, None}
use Rattle.frame_reader_answer.specs.declared.Bad.{Bad}
use Rattle.base_laws.specs.Lists.{every, same}
use Rattle.frame_reader.specs.Reader.{value_of, answer_of}

-- the types of the two TLVs
abbrev pub data_type : ℕ
data_type = 3

abbrev pub test_type : ℕ
test_type = 32

abbrev pub is_zero : ℕ → Bool
is_zero x = eqb x 0

-- pattern type 0 is there, and what is behind it is zero too
abbrev pub zero_pattern : List ℕ → Bool
zero_pattern v = ltb 0 (length v) && every is_zero v

-- what the reader says, and of a value whether it is what was asked for
unfoldable pub outcome_of : Result Bool Bad → Bool → Result (Option Bool) Bad
outcome_of (Ok true) holds = Ok (Some holds)
outcome_of (Ok false) holds = Ok None
outcome_of (Err b) holds = Err b

abbrev pub same_data : List ℕ → List ℕ → Result (Option Bool) Bad
same_data f octets = outcome_of (answer_of f data_type) (same (value_of f data_type) octets)

abbrev pub zero_test : List ℕ → Result (Option Bool) Bad
zero_test f = outcome_of (answer_of f test_type) (zero_pattern (value_of f test_type))
