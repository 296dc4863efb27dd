-- The text that is computed is the text that is meant. Assumes nothing.
use Prim.Native.Nat.{ℕ, zero, suc, ◌+◌, ◌≤◌, ◌<◌}
use mathlib.Core.Path.{◌≡◌, sym, ap, ap₂, ◌∙◌}
use mathlib.Core.List.{List, [], ◌∷◌, ◌++◌}
use native.Mathlib.Omega.{arith}
use lib.ListN.{length, drop, length-append, length-drop, take-append-drop}
use lib.Seq.{get_or-drop, drop_at}
use Rattle.std.specs.Prelude.{Some, None}
use Rattle.base_laws.specs.Lists.{part}
use Rattle.base_octets.specs.Octets.{Octets}
use Rattle.stored_line.specs.declared.LossLine.{LossLine}
use Rattle.stored_line.specs.Line.{line_record}
use Rattle.stored_line.specs.LineCalls.{read_line}
use Rattle.stored_line.proofs.Laws.{line-long}
use Rattle.stored_line.proofs.LineRecords.{loss-records}
use Rattle.stored_sheet.specs.Sheet.{refused_text, line_text, Prints, nothing_left, good_record, bad_record, answer_text, text_of}
use Rattle.stored_sheet.proofs.LineOrNot.{Read, a_line, refused, read, is-line, is-refused}
use Rattle.stored_sheet.proofs.Text.{text-none, text-good, text-bad}

-- ── the text of an answer ──

line-text : (octets : List ℕ) (line : LossLine) → read_line octets ≡ Some line → answer_text (read_line octets) ≡ line_text line
unfolding answer_text
line-text octets line e = ap answer_text e

refused-text : (octets : List ℕ) → read_line octets ≡ None → answer_text (read_line octets) ≡ refused_text
unfolding answer_text
refused-text octets e = ap answer_text e

-- octets whose first record is bad
pub all-refused : (octets : List ℕ) → 0 < length octets → read_line octets ≡ None → text_of octets ≡ refused_text
all-refused octets some e = text-bad octets some (is-refused octets e) ∙ refused-text octets e

-- ── what is computed is what is meant ──

behind_record : (line : LossLine) (rest : List ℕ) → drop 24 (line_record line ++ rest) ≡ rest
behind_record line rest = drop_at (line_record line) rest 24 (line-long line)

pub only : (octets text : List ℕ) → Prints octets text → text ≡ text_of octets
only [] text nothing_left = sym text-none
only octets text (good_record line rest more k p) =
    let all = line_record line ++ rest in
    let e = loss-records.written line rest k in
    let some : 0 < length all = omega (arith, length-append (line_record line) rest, line-long line) in
    ap₂ (λ (a b : List ℕ). a ++ b) (sym (line-text all line e)) (only rest more p ∙ ap text_of (sym (behind_record line rest)))
    ∙ sym (text-good all some (is-line all line e))
only octets text (bad_record x xs w) = sym (all-refused (x ∷ xs) (omega arith) ((loss-records.refuses_7 (x ∷ xs)).1 w))

rest-octets : (octets : List ℕ) → Octets octets → Octets (drop 24 octets)
rest-octets octets all i = rw (get_or-drop 24 octets i 0) (all (24 + i))

first_record : (octets front : List ℕ) → part 0 24 octets ≡ front → front ++ drop 24 octets ≡ octets
unfolding part
first_record octets front e = ap (λ (t : List ℕ). t ++ drop 24 octets) (sym e) ∙ take-append-drop 24 octets

pub prints-within : (n : ℕ) (octets : List ℕ) → length octets ≤ n → Octets octets → Prints octets (text_of octets)
prints-within zero [] h all = rw text-none nothing_left
prints-within zero (x ∷ xs) h all = absurd (omega (arith, h))
prints-within (suc n) [] h all = rw text-none nothing_left
prints-within (suc n) (x ∷ xs) h all =
    by (prints-within n (drop 24 (x ∷ xs)) (omega (arith, h, length-drop 24 (x ∷ xs))) (rest-octets (x ∷ xs) all)) (read (x ∷ xs))
  where
    by : Prints (drop 24 (x ∷ xs)) (text_of (drop 24 (x ∷ xs))) → Read (x ∷ xs) → Prints (x ∷ xs) (text_of (x ∷ xs))
    by rest (refused e) = rw (all-refused (x ∷ xs) (omega arith) e) (bad_record x xs ((loss-records.refuses_7 (x ∷ xs)).0 e))
    by rest (a_line line e) =
        let text : text_of (x ∷ xs) ≡ line_text line ++ text_of (drop 24 (x ∷ xs)) =
        text-good (x ∷ xs) (omega arith) (is-line (x ∷ xs) line e)
        ∙ ap (λ (t : List ℕ). t ++ text_of (drop 24 (x ∷ xs))) (line-text (x ∷ xs) line e) in
        let front : line_record line ++ drop 24 (x ∷ xs) ≡ x ∷ xs =
        first_record (x ∷ xs) (line_record line) (loss-records.again (x ∷ xs) line all e) in
        rw (front, sym text) at (good_record line (drop 24 (x ∷ xs)) (text_of (drop 24 (x ∷ xs))) (loss-records.kept (x ∷ xs) line e) rest)
