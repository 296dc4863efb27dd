-- Reading and writing a loss line. The paper, "Stored records" and "Refusals": reading gives 7, writing 4 and then 3; any other value
-- beside a refusal is 0; what is written reads back, and what is read writes back as the same octets. Definitions and the statement only.
use Rattle.std.specs.Prelude.{ℕ, ◌+◌, ◌≤◌, ◌<◌, ◌≡◌, List, [], ◌∷◌, ◌++◌, true, not, ◌↔◌, ◌⊎◌, pos, length, Result, Ok, Err, Option, Some, None}
use Rattle.base_laws.specs.Ended.{Wrote, wrote}
use Rattle.base_laws.specs.Tests.{choose}
use Rattle.base_laws.specs.Lists.{part, laid}
use Rattle.base_octets.specs.Octets.{Octets}
use Rattle.stored_record.specs.declared.RecordRefusal.TheVariants as stored
use Rattle.stored_record.specs.declared.RecordTold.{RecordTold}
use Rattle.stored_record.specs.Record.{is_record, NoRecord}
use Rattle.stored_record.specs.Writing.{write_record}
use Rattle.stored_record.specs.Writing as writing
use Rattle.stored_line.specs.declared.LossLine.{LossLine}
use Rattle.stored_line.specs.declared.LineTold.{LineTold}
use Rattle.stored_line.specs.Line.{KeepsRules, keeps_rules, line_body, line_record, line_in}
use Rattle.stored_record.specs.declared.RecordRefusal.{RecordRefusal}

-- refusal 7 where there is no whole record of kind 2 with 20 octets of body, or its values break a rule; else the line
unfoldable pub read_line : List ℕ → Option LossLine
read_line octets =
    choose (
    (not (is_record 2 20 octets), None)
    ∷ (not (keeps_rules (line_in octets)), None)
    ∷ [])
    (Some (line_in octets))

-- the record of the line, if it keeps the rules
unfoldable pub write_line : LossLine → List ℕ → Wrote (Result ℕ RecordRefusal)
write_line line buffer = write_record (keeps_rules line) 2 (line_body line) buffer

-- and its numbers
abbrev pub line_written_numbers : LossLine → List ℕ → RecordTold
line_written_numbers line buffer = writing.record_numbers (keeps_rules line) (line_body line) buffer

-- ── in the paper's numbers ──

abbrev pub seven : LineTold
seven = record { refusal = 7; intervals = 0; near = pos 0; far = pos 0 }

abbrev pub values : LossLine → LineTold
values line = record { refusal = 0; intervals = line.intervals; near = line.near; far = line.far }

unfoldable pub line_told : Option LossLine → LineTold
line_told None = seven
line_told (Some line) = values line

-- the same from the octets alone
unfoldable pub line_numbers : List ℕ → LineTold
line_numbers octets =
    choose (
    (not (is_record 2 20 octets), seven)
    ∷ (not (keeps_rules (line_in octets)), seven)
    ∷ [])
    (values (line_in octets))

-- kind 2, 24 octets: near, far, intervals; no function needs anything. Reading gives 7 exactly where there is no whole record of kind 2
-- with a body of 20 octets, or its values break a rule (`stored_line.KeepsRules`); octets behind the record are not looked at. Writing
-- gives 4, then 3, exactly where they are due. A record written reads back, and one that is read writes back. The test is the session's
-- own, on a line made into a session with a reading of four zeros kept, so the bound on totals is said once; it holds exactly where the
-- rules on intervals and totals do
pub record LossRecords : Type 0 where
  pub rules : (line : LossLine) → (keeps_rules line ≡ true) ↔ KeepsRules line
  -- 7 exactly where the head is wrong, the record is cut short, or a value breaks a rule; and beside it every value is 0
  pub refuses_7 : (octets : List ℕ) → (read_line octets ≡ None) ↔ (NoRecord 2 20 octets ⊎ (KeepsRules (line_in octets) → ⊥))
  pub zeros : (octets : List ℕ) → read_line octets ≡ None → line_numbers octets ≡ seven
  pub agree : (octets : List ℕ) → line_told (read_line octets) ≡ line_numbers octets
  -- a line that is written reads back, whatever is behind it
  pub written : (line : LossLine) (rest : List ℕ) → KeepsRules line → read_line (line_record line ++ rest) ≡ Some line
  -- a line that is read keeps the rules, and writes back as the same 24 octets
  pub kept : (octets : List ℕ) (line : LossLine) → read_line octets ≡ Some line → KeepsRules line
  pub again : (octets : List ℕ) (line : LossLine) → Octets octets → read_line octets ≡ Some line → part 0 24 octets ≡ line_record line
  -- what is behind the 24 octets is not looked at
  pub front_alone : (octets rest : List ℕ) → 24 ≤ length octets → read_line (octets ++ rest) ≡ read_line octets
  -- 4 exactly where a rule is broken, else 3 exactly where the buffer is shorter than 24; neither changes it
  pub refuses_4 : (line : LossLine) (buffer : List ℕ) → ((write_line line buffer).answer ≡ Err stored.BreaksRule) ↔ (KeepsRules line → ⊥)
  pub refuses_3 : (line : LossLine) (buffer : List ℕ) → ((write_line line buffer).answer ≡ Err stored.NoRoom) ↔ (KeepsRules line × (length buffer < 24))
  pub refused : (line : LossLine) (buffer : List ℕ) → (((writing.record_told (write_line line buffer).answer).refusal ≡ 0) → ⊥) → (write_line line buffer).buffer ≡ buffer
  -- any other line is written, and the octets behind its 24 stay
  pub writes : (line : LossLine) (buffer : List ℕ) → KeepsRules line → 24 ≤ length buffer → write_line line buffer ≡ wrote (Ok 24) (laid 0 (line_record line) buffer)
