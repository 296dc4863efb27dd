-- Raw loss replies, and the session's line after each. A reply is four counts of 32 bits, little-endian, in the paper's order: TxFCf,
-- RxFCf, TxFCb and our own received count; each goes to the session by rule 7. Definitions only.
use Rattle.std.specs.Prelude.{ℕ, zero, suc, ◌+◌, ◌/◌, List, [], ◌∷◌, ◌++◌, cond, eqb, length, drop}
use Rattle.base_laws.specs.Lists.{part}
use Rattle.base_numbers.specs.Numbers.{little_endian, number}
use Rattle.loss_session.specs.declared.Readings.{Readings}
use Rattle.loss_session.specs.declared.LossSession.{LossSession}
use Rattle.loss_session.specs.Session.{readings}
use Rattle.loss_reading.specs.Reading.{after_reading}
use Rattle.loss_reading.specs.Told.{loss_numbers}
use Rattle.stored_line.specs.declared.LossLine.{LossLine}
use Rattle.stored_line.specs.Line.{line_record}

-- the count in the four octets at a place
abbrev pub count_at : ℕ → List ℕ → ℕ
count_at at octets = number little_endian (part at 4 octets)

-- the reply at the front, and the first n replies
abbrev pub readings_in : List ℕ → Readings
readings_in octets = readings (count_at 0 octets) (count_at 4 octets) (count_at 8 octets) (count_at 12 octets)

unfoldable pub replies_in : ℕ → List ℕ → List Readings
replies_in zero octets = []
replies_in (suc n) octets = readings_in octets ∷ replies_in n (drop 16 octets)

-- all the whole replies; what is left behind them is not looked at
abbrev pub replies : List ℕ → List Readings
replies octets = replies_in (length octets / 16) octets

-- what a session's line is
abbrev pub line_of : LossSession → LossLine
line_of s = record { near = s.near; far = s.far; intervals = s.intervals }

-- ── worked through ──

-- the records written, why it halted, or 0, the replies taken, and the session then
pub record Worked : Type 0 where
  pub records : List ℕ
  pub halted : ℕ
  pub taken : ℕ
  pub session : LossSession

-- nothing more is taken: no reply is left, or the session does not take the next, and then its number for why
abbrev pub stopped : ℕ → LossSession → Worked
stopped halted s = record { records = []; halted = halted; taken = 0; session = s }

-- n replies with their records, and then more
abbrev pub behind : List ℕ → ℕ → Worked → Worked
behind records n w = record { records = records ++ w.records; halted = w.halted; taken = n + w.taken; session = w.session }

-- each reply goes to the session that the last one left, and the session's line is written; where the session does not take it, the work
-- halts
unfoldable pub worked : LossSession → List Readings → Worked
worked s [] = stopped 0 s
worked s (r ∷ rs) =
    cond (eqb (loss_numbers s r).refusal 0)
    (behind (line_record (line_of (after_reading s r).session)) 1 (worked (after_reading s r).session rs))
    (stopped (loss_numbers s r).refusal s)
