-- The sheet. The paper, "Stored records and the sheet program": the header, then for each record intervals, near and far with one space
-- between; at a bad record the refusal, and no more. Definitions and the statement only.
use Rattle.std.specs.Prelude.{ℕ, zero, suc, ◌*◌, ◌<◌, ◌≡◌, List, [], ◌∷◌, ◌++◌, Bool, true, false, ◌&&◌, cond, ◌⊎◌, pos, length, drop, Option, Some, None}
use Rattle.base_octets.specs.Octets.{Octets}
use Rattle.base_number_text.specs.Decimal.{decimal}
use Rattle.stored_record.specs.Record.{kind_field, NoRecord}
use Rattle.stored_line.specs.declared.LossLine.{LossLine}
use Rattle.stored_line.specs.Line.{KeepsRules, line_record, line_in}
use Rattle.stored_line.specs.LineCalls.{read_line}

-- ── its texts, in ASCII ──

-- intervals near far
abbrev pub header_text : List ℕ
header_text = 105 ∷ 110 ∷ 116 ∷ 101 ∷ 114 ∷ 118 ∷ 97 ∷ 108 ∷ 115 ∷ 32 ∷ 110 ∷ 101 ∷ 97 ∷ 114 ∷ 32 ∷ 102 ∷ 97 ∷ 114 ∷ 10 ∷ []

-- refused 7
abbrev pub refused_text : List ℕ
refused_text = 114 ∷ 101 ∷ 102 ∷ 117 ∷ 115 ∷ 101 ∷ 100 ∷ 32 ∷ 55 ∷ 10 ∷ []

-- intervals, near and far: a space behind the first two, a line feed behind the last
unfoldable pub line_text : LossLine → List ℕ
line_text line = (decimal (pos line.intervals) ++ (32 ∷ [])) ++ (decimal line.near ++ (32 ∷ [])) ++ (decimal line.far ++ (10 ∷ []))

-- no line is longer: three numbers of at most 20 octets, each with one octet behind it
abbrev pub longest_line : ℕ
longest_line = 63

-- ── what is meant ──

-- what is printed after the header for these octets: nothing for none; the line of a good record, and what is printed for the rest; the
-- refusal alone where no whole record of kind 2 begins, or its values break a rule
pub data Prints : List ℕ → List ℕ → Type 0 where
  nothing_left : Prints [] []
  good_record : (line : LossLine) (rest text : List ℕ) → KeepsRules line → Prints rest text → Prints (line_record line ++ rest) (line_text line ++ text)
  bad_record : (first : ℕ) (rest : List ℕ) → NoRecord 2 20 (first ∷ rest) ⊎ (KeepsRules (line_in (first ∷ rest)) → ⊥) → Prints (first ∷ rest) refused_text

-- ── the same, computed ──

-- the text of one record, and whether it is a line
unfoldable pub answer_text : Option LossLine → List ℕ
answer_text None = refused_text
answer_text (Some line) = line_text line

unfoldable pub is_line : Option LossLine → Bool
is_line None = false
is_line (Some line) = true

-- the text of the octets, and whether all of them were good: at most n records
unfoldable pub text_within : ℕ → List ℕ → List ℕ
text_within zero octets = []
text_within (suc n) [] = []
text_within (suc n) (x ∷ xs) = answer_text (read_line (x ∷ xs)) ++ cond (is_line (read_line (x ∷ xs))) (text_within n (drop 24 (x ∷ xs))) []

unfoldable pub good_within : ℕ → List ℕ → Bool
good_within zero octets = true
good_within (suc n) [] = true
good_within (suc n) (x ∷ xs) = is_line (read_line (x ∷ xs)) && good_within n (drop 24 (x ∷ xs))

-- a record has 24 octets, so there are no more records than octets
abbrev pub text_of : List ℕ → List ℕ
text_of octets = text_within (length octets) octets

abbrev pub all_good : List ℕ → Bool
all_good octets = good_within (length octets) octets

-- the whole sheet of an input
abbrev pub sheet_of : List ℕ → List ℕ
sheet_of octets = header_text ++ text_of octets

-- ── in chunks ──

-- what is printed for chunks one after another: no more after one with a bad record
unfoldable pub chunks_text : List (List ℕ) → List ℕ
chunks_text [] = []
chunks_text (chunk ∷ more) = text_of chunk ++ cond (all_good chunk) (chunks_text more) []

-- the chunks end to end
unfoldable pub joined : List (List ℕ) → List ℕ
joined [] = []
joined (chunk ∷ more) = chunk ++ joined more

-- no record is split between two chunks: each holds whole records, but for the last
abbrev pub Whole : List (List ℕ) → Type 0
Whole [] = Unit {0}
Whole (chunk ∷ []) = Unit {0}
Whole (chunk ∷ next ∷ more) = ((k : ℕ) × (length chunk ≡ k * 24)) × Whole (next ∷ more)

-- the paper's worked input and output
abbrev pub worked_input : List ℕ
worked_input = 22 ∷ 0 ∷ 2 ∷ 0 ∷ 255 ∷ 255 ∷ 255 ∷ 255 ∷ 255 ∷ 255 ∷ 255 ∷ 255 ∷ 0 ∷ 0 ∷ 0 ∷ 0 ∷ 0 ∷ 0 ∷ 0 ∷ 0 ∷ 1 ∷ 0 ∷ 0 ∷ 0 ∷ 22 ∷ 0 ∷ 2 ∷ 0 ∷ 5 ∷ 0 ∷ 0 ∷ 0 ∷ 0 ∷ 0 ∷ 0 ∷ 0 ∷ 255 ∷ 255 ∷ 255 ∷ 255 ∷ 0 ∷ 0 ∷ 0 ∷ 0 ∷ 3 ∷ 0 ∷ 0 ∷ 0 ∷ []

abbrev pub worked_output : List ℕ
worked_output = 105 ∷ 110 ∷ 116 ∷ 101 ∷ 114 ∷ 118 ∷ 97 ∷ 108 ∷ 115 ∷ 32 ∷ 110 ∷ 101 ∷ 97 ∷ 114 ∷ 32 ∷ 102 ∷ 97 ∷ 114 ∷ 10 ∷ 49 ∷ 32 ∷ 45 ∷ 49 ∷ 32 ∷ 48 ∷ 10 ∷ 51 ∷ 32 ∷ 53 ∷ 32 ∷ 52 ∷ 50 ∷ 57 ∷ 52 ∷ 57 ∷ 54 ∷ 55 ∷ 50 ∷ 57 ∷ 53 ∷ 10 ∷ []

-- the text of any input (`stored_sheet.text_of`) is what is meant, record by record (`stored_sheet.Prints`), and there is no other; chunks
-- laid end to end give the text of the whole, with a bad record in any of them; no input, octets left over, another kind; the paper's
-- worked input and output
pub record Sheets : Type 0 where
  -- what is computed is what is meant, and there is nothing else that it could be
  pub prints : (octets : List ℕ) → Octets octets → Prints octets (text_of octets)
  pub only : (octets text : List ℕ) → Prints octets text → text ≡ text_of octets
  -- chunks laid end to end give the text of the whole, with a bad record in any of them
  pub two : (first rest : List ℕ) (k : ℕ) → length first ≡ k * 24 → text_of (first ++ rest) ≡ text_of first ++ cond (all_good first) (text_of rest) []
  pub chunks : (parts : List (List ℕ)) → Whole parts → header_text ++ chunks_text parts ≡ sheet_of (joined parts)
  -- no input prints the header alone; one that ends within a record, or has another kind, is refused there
  pub nothing : sheet_of [] ≡ header_text
  pub left_over : (octets : List ℕ) → 0 < length octets → length octets < 24 → text_of octets ≡ refused_text
  pub other_kind : (octets : List ℕ) → 0 < length octets → (kind_field octets ≡ 2 → ⊥) → text_of octets ≡ refused_text
  pub worked : sheet_of worked_input ≡ worked_output
