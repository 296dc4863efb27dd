-- A month worked again: raw replies, the stored lines that `stored_replies` writes of them, and the sheet that `stored_sheet_lines`
-- prints of those. The order, demand 3: the totals agree with an account kept in unlimited whole numbers. Definitions and the statement
-- only.
use Rattle.std.specs.Prelude.{ℕ, ◌-◌, ◌≤◌, ◌≡◌, List, [], ◌∷◌, ◌++◌, map, length}
use Rattle.base_numbers.specs.Numbers.{little_endian, in_octets}
use Rattle.loss_session.specs.declared.Readings.{Readings}
use Rattle.loss_session.specs.Session.{near, far, readings, cleared_session, most_readings}
use Rattle.loss_reading.specs.Reading.{after_reading}
use Rattle.stored_line.specs.declared.LossLine.{LossLine}
use Rattle.stored_line.specs.Line.{line_record}
use Rattle.stored_sheet.specs.Sheet.{header_text, line_text, sheet_of, joined}
use Rattle.loss_account.specs.Account.{total}
use Rattle.loss_account.specs.Demand3.{leaves, Counts, truth_of, shown, Steady, Small}
use Rattle.stored_replies.specs.Replies.{replies, Worked, stopped, worked}

-- ── the account's sheet ──

-- the line for the true counts of some replies: both totals since the first, and one interval fewer than replies
abbrev pub account_line : List Counts → LossLine
account_line ts = record { near = total (map (truth_of near) ts); far = total (map (truth_of far) ts); intervals = length ts - 1 }

-- a line after each reply, over all that came before it and itself
unfoldable pub account_lines : List Counts → List Counts → List LossLine
account_lines before [] = []
account_lines before (t ∷ ts) = account_line (before ++ (t ∷ [])) ∷ account_lines (before ++ (t ∷ [])) ts

-- the records of lines, and their text, end to end
abbrev pub records_of : List LossLine → List ℕ
records_of lines = joined (map line_record lines)

abbrev pub texts_of : List LossLine → List ℕ
texts_of lines = joined (map line_text lines)

-- ── raw replies ──

-- four counts of 32 bits, little-endian
unfoldable pub raw_reply : Readings → List ℕ
raw_reply r = in_octets little_endian 4 r.txf ++ in_octets little_endian 4 r.rxf ++ in_octets little_endian 4 r.txb ++ in_octets little_endian 4 r.ours

abbrev pub raw_replies : List Readings → List ℕ
raw_replies rs = joined (map raw_reply rs)

-- the records that are written of raw octets, from a cleared session on
abbrev pub recounted : List ℕ → Worked
recounted octets = worked cleared_session (replies octets)

-- the grain quay's minute: as many frames sent as received, but one more received here than the peer had sent by its count
abbrev pub quay : List Readings
quay = readings 100 100 50 50 ∷ readings 200 200 60 61 ∷ []

abbrev pub quay_sheet : List ℕ
quay_sheet = 105 ∷ 110 ∷ 116 ∷ 101 ∷ 114 ∷ 118 ∷ 97 ∷ 108 ∷ 115 ∷ 32 ∷ 110 ∷ 101 ∷ 97 ∷ 114 ∷ 32 ∷ 102 ∷ 97 ∷ 114 ∷ 10 ∷ 48 ∷ 32 ∷ 48 ∷ 32 ∷ 48 ∷ 10 ∷ 49 ∷ 32 ∷ 45 ∷ 49 ∷ 32 ∷ 48 ∷ 10 ∷ []

-- a month worked again is the account in unlimited whole numbers: records, sheet, the halt after the last reply, the grain quay
pub record Months : Type 0 where
  -- readings of 32 bits come back from their raw form
  pub raw_back : (rs : List Readings) → Small rs → replies (raw_replies rs) ≡ rs
  -- of true counts that neither fall nor grow by 2^32 between two replies, every reply is taken, and the account's lines are written
  pub taken : (ts : List Counts) → length ts ≤ most_readings → Steady ts
      → ((recounted (raw_replies (map shown ts))).halted ≡ 0) × ((recounted (raw_replies (map shown ts))).taken ≡ length ts)
  pub written : (ts : List Counts) → length ts ≤ most_readings → Steady ts
      → (recounted (raw_replies (map shown ts))).records ≡ records_of (account_lines [] ts)
  -- and the sheet of them is the account's sheet
  pub sheet : (ts : List Counts) → length ts ≤ most_readings → Steady ts
      → sheet_of (recounted (raw_replies (map shown ts))).records ≡ header_text ++ texts_of (account_lines [] ts)
  -- after 1,000,000,001 replies the work halts with 5 at the next, and nothing more is taken or written
  pub full : (rs more : List Readings) (r : Readings) → most_readings ≤ length rs
      → worked (leaves after_reading cleared_session rs) (r ∷ more) ≡ stopped 5 (leaves after_reading cleared_session rs)
  -- the grain quay: -1, and not 4,294,967,295
  pub grain_quay : sheet_of (recounted (raw_replies quay)).records ≡ quay_sheet
