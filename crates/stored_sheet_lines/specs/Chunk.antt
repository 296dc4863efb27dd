-- The text of a chunk, written into a buffer. Definitions and the statement only.
use Rattle.std.specs.Prelude.{ℕ, ◌+◌, ◌*◌, ◌≤◌, ◌<◌, ◌≡◌, List, [], ◌∷◌, true, false, ◌↔◌, ltb, length, Option, Some, None, Result, Ok, Err}
use Rattle.base_laws.specs.Tests.{choose}
use Rattle.base_laws.specs.Lists.{laid}
use Rattle.base_laws.specs.Ended.{Wrote, wrote}
use Rattle.stored_sheet_lines.specs.declared.SheetRefusal.{SheetRefusal}
use Rattle.stored_sheet_lines.specs.declared.SheetRefusal.TheVariants.{NoRoom}
use Rattle.stored_sheet_lines.specs.declared.Printed.{Printed}
use Rattle.stored_sheet_lines.specs.declared.Printed.TheVariants.{All, Stopped}
use Rattle.stored_line.specs.declared.LossLine.{LossLine}
use Rattle.stored_sheet.specs.Sheet.{refused_text, line_text, text_of, all_good, longest_line}

-- the room that is needed: a longest line has fewer than three octets for each of its record's 24
abbrev pub room : List ℕ → ℕ
room octets = 3 * length octets + longest_line

-- the place behind the text of one record that is put at a place: an error behind the refusal
unfoldable pub reached : ℕ → Option LossLine → Result ℕ ℕ
reached at None = Err (at + length refused_text)
reached at (Some line) = Ok (at + length (line_text line))

-- too little room; the text of all; the text up to a bad record
unfoldable pub write_lines : List ℕ → List ℕ → Wrote (Result Printed SheetRefusal)
write_lines octets buffer =
    choose (
    (ltb (length buffer) (room octets), wrote (Err NoRoom) buffer)
    ∷ (all_good octets, wrote (Ok (All (length (text_of octets)))) (laid 0 (text_of octets) buffer))
    ∷ [])
    (wrote (Ok (Stopped (length (text_of octets)))) (laid 0 (text_of octets) buffer))

-- too little room is answered, and then nothing changes, exactly where the buffer is shorter than three octets for each octet read and 63
-- more, which is always enough: a line has at most 63 octets, and its record has 24. Else the text is in the first octets, every octet
-- behind it is as it was, and the answer has its length and whether it ends at a bad record. These are steps of a program and no answers
-- of the paper, so they have no numbers
pub record Chunks : Type 0 where
  -- the text has room there
  pub fits : (octets : List ℕ) → length (text_of octets) ≤ room octets
  -- refused exactly where there is less room, and the buffer is not changed
  pub no_room : (octets buffer : List ℕ) → ((write_lines octets buffer).answer ≡ Err NoRoom) ↔ (length buffer < room octets)
  pub untouched : (octets buffer : List ℕ) → length buffer < room octets → (write_lines octets buffer).buffer ≡ buffer
  -- otherwise the text is in front, and the answer says whether a bad record was met
  pub written : (octets buffer : List ℕ) → room octets ≤ length buffer → (write_lines octets buffer).buffer ≡ laid 0 (text_of octets) buffer
  pub all : (octets buffer : List ℕ) → room octets ≤ length buffer → all_good octets ≡ true → (write_lines octets buffer).answer ≡ Ok (All (length (text_of octets)))
  pub stopped : (octets buffer : List ℕ) → room octets ≤ length buffer → all_good octets ≡ false → (write_lines octets buffer).answer ≡ Ok (Stopped (length (text_of octets)))
