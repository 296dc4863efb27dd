-- The paper's numbers for each case of a reader's answer. Definitions only.
use Rattle.std.specs.Prelude.{ℕ, Bool, true, false, Result, Ok, Err}
use Rattle.frame_reader_answer.specs.declared.Bad.{Bad}
use Rattle.frame_reader_answer.specs.declared.Bad.TheVariants.{Length, Short, Opcode, Offset, CutOff}
use Rattle.frame_reader_answer.specs.declared.TlvTold.{TlvTold}

abbrev pub tell_tlv : ℕ → ℕ → ℕ → TlvTold
tell_tlv refusal drop value = record { refusal = refusal; drop = drop; value = value }

unfoldable pub bad_of : Bad → TlvTold
bad_of Length = tell_tlv 1 0 0
bad_of Short = tell_tlv 0 1 0
bad_of Opcode = tell_tlv 0 3 0
bad_of Offset = tell_tlv 0 4 0
bad_of CutOff = tell_tlv 0 5 0

unfoldable pub tlv_told : Result Bool Bad → TlvTold
tlv_told (Ok true) = tell_tlv 0 0 1
tlv_told (Ok false) = tell_tlv 0 0 0
tlv_told (Err b) = bad_of b
