-- The paper's numbers for each case of an answer on a message. Definitions only.
use Rattle.std.specs.Prelude.{ℕ, Result, Ok, Err}
use Rattle.frame_message_answer.specs.declared.NoMessage.{NoMessage}
use Rattle.frame_message_answer.specs.declared.NoMessage.TheVariants.{PeriodCode, Bad}
use Rattle.frame_reader_answer.specs.Told.{bad_of}
use Rattle.frame_message_answer.specs.declared.MessageTold.{MessageTold}

abbrev pub tell_message : ℕ → ℕ → ℕ → MessageTold
tell_message refusal drop opcode = record { refusal = refusal; drop = drop; opcode = opcode }

unfoldable pub message_told : Result ℕ NoMessage → MessageTold
message_told (Ok opcode) = tell_message 0 0 opcode
message_told (Err PeriodCode) = tell_message 0 7 0
message_told (Err (Bad b)) = tell_message (bad_of b).refusal (bad_of b).drop 0
