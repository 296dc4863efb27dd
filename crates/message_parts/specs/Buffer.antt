-- A message and the caller's buffer. The paper, refusal 3: a message must be written and the buffer is shorter than it; a refused call
-- leaves buffers unchanged; rule 6: octets of the buffer after a written message stay. Definitions and the statement only.
use Rattle.std.specs.Prelude.{ℕ, ◌≡◌, List, Bool, cond, ltb, length, Result, Ok, Err}
use Rattle.base_laws.specs.Lists.{laid}
use Rattle.message_parts.specs.declared.parts.WriteRefusal.{WriteRefusal}
use Rattle.message_parts.specs.declared.parts.WriteRefusal.TheVariants.{NoRoom}
use Rattle.message_parts.specs.declared.parts.WrittenTold.{WrittenTold}

-- the buffer is shorter than the message
abbrev pub no_room : List ℕ → List ℕ → Bool
no_room message buffer = ltb (length buffer) (length message)

abbrev pub written_of : List ℕ → List ℕ → Result ℕ WriteRefusal
written_of message buffer = cond (no_room message buffer) (Err NoRoom) (Ok (length message))

-- the message laid over the buffer's first octets, or the buffer as it was
abbrev pub buffer_of : List ℕ → List ℕ → List ℕ
buffer_of message buffer = cond (no_room message buffer) buffer (laid 0 message buffer)

-- ── in the paper's numbers ──

abbrev pub tell_written : ℕ → ℕ → WrittenTold
tell_written refusal length = record { refusal = refusal; length = length }

unfoldable pub written_told : Result ℕ WriteRefusal → WrittenTold
written_told (Err NoRoom) = tell_written 3 0
written_told (Ok n) = tell_written 0 n

abbrev pub written_numbers : List ℕ → List ℕ → WrittenTold
written_numbers message buffer = cond (no_room message buffer) (tell_written 3 0) (tell_written 0 (length message))

-- an answer has the paper's numbers, and no two have the same
pub record WrittenNumbers : Type 0 where
  pub agree : (message buffer : List ℕ) → written_told (written_of message buffer) ≡ written_numbers message buffer
  pub apart : (a b : Result ℕ WriteRefusal) → written_told a ≡ written_told b → a ≡ b
