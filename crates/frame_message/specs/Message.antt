-- Which message a frame is. The paper, "What is in a PDU": the table; rule 4, D7: a CCM of period code 0, an AIS or LCK of a code other
-- than 4 and 6. Definitions only.
use Rattle.std.specs.Prelude.{false, true, ℕ, ◌%◌, Bool, ◌&&◌, ◌||◌, not, cond, List, eqb, Result, Ok, Err}
use Rattle.frame_message_answer.specs.declared.NoMessage.{NoMessage}
use Rattle.frame_message_answer.specs.declared.NoMessage.TheVariants.{PeriodCode, Bad}
use Rattle.frame_reader_answer.specs.declared.Bad.{Bad as Reason}
use Rattle.frame_opcodes.specs.declared.Rule.{Rule}
use Rattle.frame_opcodes.specs.Opcodes.{rule_of}
use Rattle.frame_head.specs.Head.{pdu_of, opcode_of, flags_of}
use Rattle.frame_seek.specs.Seek.{seek_in}
use Rattle.frame_reader.specs.Reader.{answer_at, answer_of}

-- the low three bits of the flags
abbrev pub period_code : ℕ → ℕ
period_code flags = flags % 8

-- 4 is one second, 6 one minute
abbrev pub alarm_code : ℕ → Bool
alarm_code code = eqb code 4 || eqb code 6

-- which codes a message may have, by its row: AIS and LCK 4 or 6, a CCM any but 0; those without a period are not tested
abbrev pub code_good : Rule → ℕ → Bool
code_good r code = (not r.alarm || alarm_code code) && (not r.period || not (eqb code 0))

-- D7, or which message it is
unfoldable pub judged_of : ℕ → ℕ → Result ℕ NoMessage
judged_of opcode flags = cond (code_good (rule_of opcode) (period_code flags)) (Ok opcode) (Err PeriodCode)

-- the reader's reason, or what comes after it
abbrev pub unless_bad : Result Bool Reason → Result ℕ NoMessage → Result ℕ NoMessage
unless_bad (Err b) message = Err (Bad b)
unless_bad (Ok false) message = message
unless_bad (Ok true) message = message

-- of a PDU alone: D1, D3 and D4, then D5, then D7, or which message it is
unfoldable pub message_in : List ℕ → Result ℕ NoMessage
message_in p = unless_bad (answer_at (seek_in p 0)) (judged_of (opcode_of p) (flags_of p))

unfoldable pub message_of : List ℕ → Result ℕ NoMessage
message_of f = unless_bad (answer_of f 0) (judged_of (opcode_of (pdu_of f)) (flags_of (pdu_of f)))
