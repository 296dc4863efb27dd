-- A TLV in numbers: those of the reader's answer, and where in the frame the value is and how long it is, 0 and 0 where there is none.
-- Definitions only.
use Rattle.std.specs.Prelude.{ℕ, Result, Ok, Err, Option, Some, None}
use Rattle.frame_seek.specs.declared.Span.{Span}
use Rattle.frame_reader_answer.specs.declared.Bad.{Bad}
use Rattle.frame_reader_answer.specs.Told.{tlv_told}
use Rattle.frame_reader.specs.Reader.{answer_at}
use Rattle.linkbox_reader.specs.declared.TlvAt.{TlvAt}

-- place and length of what was found
abbrev pub found_at : Result (Option Span) Bad → ℕ × ℕ
found_at (Ok (Some value)) = (value.start, value.len)
found_at (Ok None) = (0, 0)
found_at (Err b) = (0, 0)

abbrev pub tlv_at : Result (Option Span) Bad → TlvAt
tlv_at s = record { refusal = (tlv_told (answer_at s)).refusal; drop = (tlv_told (answer_at s)).drop; value = (tlv_told (answer_at s)).value; start = (found_at s).0; length = (found_at s).1 }
