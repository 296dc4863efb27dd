-- The paper's numbers for a frame and what its value is tested for. Definitions only.
use Rattle.std.specs.Prelude.{ℕ, List, Bool, ◌&&◌, cond, eqb}
use Rattle.base_laws.specs.Lists.{same}
use Rattle.frame_reader_answer.specs.declared.TlvTold.{TlvTold}
use Rattle.frame_reader.specs.Reader.{value_of}
use Rattle.frame_reader.specs.Numbers.{tlv_numbers}
use Rattle.frame_value.specs.declared.ValueTold.{ValueTold}
use Rattle.frame_value.specs.Told.{tell_value}
use Rattle.frame_value.specs.Values.{data_type, test_type, zero_pattern}

-- the reader's numbers, and 1 where there is a value and it is what was asked for
abbrev pub with_holds : TlvTold → Bool → ValueTold
with_holds t holds = tell_value t.refusal t.drop t.value (cond (eqb t.value 1 && holds) 1 0)

abbrev pub same_numbers : List ℕ → List ℕ → ValueTold
same_numbers f octets = with_holds (tlv_numbers f data_type) (same (value_of f data_type) octets)

abbrev pub zero_numbers : List ℕ → ValueTold
zero_numbers f = with_holds (tlv_numbers f test_type) (zero_pattern (value_of f test_type))
