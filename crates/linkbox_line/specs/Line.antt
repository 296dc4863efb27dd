-- The loss line of a box as a stored record. The paper, "Stored records" and "Refusals": kind 2 has both totals and the intervals; refusal
-- 2, then 3; a refused call leaves the buffer as it was. Definitions and the statement only.
use Rattle.std.specs.Prelude.{ℕ, ◌≤◌, ◌<◌, ◌≡◌, List, [], ◌∷◌, ◌++◌, not, ltb, length, Some}
use Rattle.base_laws.specs.Tests.{choose}
use Rattle.base_laws.specs.Lists.{laid}
use Rattle.base_laws.specs.Ended.{Wrote, wrote, told_by}
use Rattle.loss_session.specs.declared.LossSession.{LossSession}
use Rattle.state_view.specs.State.{State}
use Rattle.state_view.specs.WellFormed.{WellFormed, well_formed}
use Rattle.stored_record.specs.declared.RecordTold.{RecordTold}
use Rattle.stored_record.specs.Writing.{tell_record, record_told}
use Rattle.stored_line.specs.declared.LossLine.{LossLine}
use Rattle.stored_line.specs.Line.{KeepsRules, line_record}
use Rattle.stored_line.specs.LineCalls.{read_line, write_line}

-- the line of a session: both totals and the intervals that they cover
abbrev pub line_of : LossSession → LossLine
line_of x = record { near = x.near; far = x.far; intervals = x.intervals }

-- refusal 2, then 3, the buffer as it was; else the record over the buffer's first 24 octets
unfoldable pub loss_line_of : State → List ℕ → Wrote RecordTold
loss_line_of s buffer =
    choose (
    (not (well_formed s), wrote (tell_record 2 0) buffer)
    ∷ (ltb (length buffer) 24, wrote (tell_record 3 0) buffer)
    ∷ [])
    (wrote (tell_record 0 24) (laid 0 (line_record (line_of s.session)) buffer))

-- each refusal exactly where it is due, and then the buffer is as it was; else the session's line is written and octets behind it stay. A
-- line of a well-formed state keeps the rules, so 4 is never given, and the record reads back as the session's values
pub record LossLines : Type 0 where
  pub refuses_2 : (s : State) (buffer : List ℕ) → (WellFormed s → ⊥) → loss_line_of s buffer ≡ wrote (tell_record 2 0) buffer
  pub refuses_3 : (s : State) (buffer : List ℕ) → WellFormed s → length buffer < 24 → loss_line_of s buffer ≡ wrote (tell_record 3 0) buffer
  pub writes : (s : State) (buffer : List ℕ) → WellFormed s → 24 ≤ length buffer
      → loss_line_of s buffer ≡ wrote (tell_record 0 24) (laid 0 (line_record (line_of s.session)) buffer)
  pub keeps : (s : State) → WellFormed s → KeepsRules (line_of s.session)
  pub reads_back : (s : State) (rest : List ℕ) → WellFormed s
      → read_line (line_record (line_of s.session) ++ rest) ≡ Some (line_of s.session)
  -- what writing that line is answered by itself, which has no 2
  pub is-written : (s : State) (buffer : List ℕ) → WellFormed s
      → loss_line_of s buffer ≡ told_by record_told (write_line (line_of s.session) buffer)
