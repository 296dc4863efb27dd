-- Sheets chunk by chunk, the paper's worked input, and the statement of specs/Sheet.antt. Assumes nothing.
use Prim.Native.Nat.{ℕ, zero, suc, ◌*◌, ◌<◌}
use mathlib.Core.Path.{◌≡◌, refl, sym, ap, ap₂, ◌∙◌}
use mathlib.Core.List.{List, [], ◌∷◌, ◌++◌, append-nil, append_assoc}
use mathlib.Core.Bool.{Bool, true, false, cond}
use mathlib.Core.Logic.{◌⊎◌, inl, inr}
use native.Mathlib.Omega.{arith}
use lib.IntN.{pos, negsuc}
use lib.ListN.{length, drop, length-append, length-drop}
use lib.Seq.{drop-append-le}
use Rattle.std.specs.Prelude.{Option}
use Rattle.base_laws.proofs.Tests.{known}
use Rattle.base_numbers.specs.Numbers.{in_octets, octets_lowest_first}
use Rattle.base_number_text.specs.Decimal.{decimal, digits_of, leading}
use Rattle.stored_record.specs.Record.{head_of, record_of, wrong_kind}
use Rattle.stored_line.specs.declared.LossLine.{LossLine}
use Rattle.stored_line.specs.Line.{KeepsRules, line_body, line_record}
use Rattle.stored_line.specs.LineCalls.{read_line}
use Rattle.stored_line.proofs.LineRecords.{loss-records}
use Rattle.stored_sheet.specs.Sheet.{header_text, line_text, nothing_left, good_record, answer_text, is_line, text_of, all_good, sheet_of}
use Rattle.stored_sheet.specs.Sheet.{chunks_text, joined, Whole, worked_input, worked_output, Sheets}
use Rattle.stored_sheet.proofs.LineOrNot.{few-refused}
use Rattle.stored_sheet.proofs.Text.{text-none, good_none, text-good, good-good, text-bad, good-bad}
use Rattle.stored_sheet.proofs.SheetText.{all-refused, only, prints-within}

-- ── chunks ──

pub two : (k : ℕ) (first rest : List ℕ) → length first ≡ k * 24
    → text_of (first ++ rest) ≡ text_of first ++ cond (all_good first) (text_of rest) []
two zero [] rest h = rw (text-none, good_none)
two zero (x ∷ xs) rest h = absurd (omega (arith, h))
two (suc k) first rest h = by (two k (drop 24 first) rest (omega (arith, h, length-drop 24 first))) (known (is_line (read_line first)))
  where
    some : 0 < length first
    some = omega (arith, h)

    some_more : 0 < length (first ++ rest)
    some_more = omega (arith, h, length-append first rest)

    alone : read_line (first ++ rest) ≡ read_line first
    alone = loss-records.front_alone first rest (omega (arith, h))

    behind : drop 24 (first ++ rest) ≡ drop 24 first ++ rest
    behind = drop-append-le 24 first rest (omega (arith, h))

    by : text_of (drop 24 first ++ rest) ≡ text_of (drop 24 first) ++ cond (all_good (drop 24 first)) (text_of rest) []
        → (is_line (read_line first) ≡ true) ⊎ (is_line (read_line first) ≡ false)
        → text_of (first ++ rest) ≡ text_of first ++ cond (all_good first) (text_of rest) []
    by more (inl b) =
        text-good (first ++ rest) some_more (ap is_line alone ∙ b)
        ∙ ap₂ (λ (r : Option LossLine) (t : List ℕ). answer_text r ++ text_of t) alone behind
        ∙ ap (λ (t : List ℕ). answer_text (read_line first) ++ t) more
        ∙ sym (append_assoc (answer_text (read_line first)) (text_of (drop 24 first)) (cond (all_good (drop 24 first)) (text_of rest) []))
        ∙ ap₂ (λ (t : List ℕ) (g : Bool). t ++ cond g (text_of rest) []) (sym (text-good first some b)) (sym (good-good first some b))
    by more (inr b) =
        text-bad (first ++ rest) some_more (ap is_line alone ∙ b)
        ∙ ap answer_text alone
        ∙ sym (append-nil (answer_text (read_line first)))
        ∙ ap₂ (λ (t : List ℕ) (g : Bool). t ++ cond g (text_of rest) []) (sym (text-bad first some b)) (sym (good-bad first some b))

either_way : (b : Bool) (l : List ℕ) → cond b l l ≡ l
either_way true l = refl
either_way false l = refl

chunked : (parts : List (List ℕ)) → Whole parts → chunks_text parts ≡ text_of (joined parts)
unfolding chunks_text joined
chunked [] w = sym text-none
chunked (chunk ∷ []) w =
    ap (λ (t : List ℕ). text_of chunk ++ t) (either_way (all_good chunk) []) ∙ append-nil (text_of chunk) ∙ ap text_of (sym (append-nil chunk))
chunked (chunk ∷ next ∷ more) w =
    ap (λ (t : List ℕ). text_of chunk ++ cond (all_good chunk) t []) (chunked (next ∷ more) w.1)
    ∙ sym (two w.0.0 chunk (joined (next ∷ more)) w.0.1)

-- ── the paper's worked input ──

one : LossLine
one = record { near = negsuc 0; far = pos 0; intervals = 1 }

three : LossLine
three = record { near = pos 5; far = pos 4294967295; intervals = 3 }

worked-input : line_record one ++ (line_record three ++ []) ≡ worked_input
unfolding one three head_of record_of line_body in_octets octets_lowest_first
worked-input = refl

worked-text : line_text one ++ (line_text three ++ [])
    ≡ 49 ∷ 32 ∷ 45 ∷ 49 ∷ 32 ∷ 48 ∷ 10 ∷ 51 ∷ 32 ∷ 53 ∷ 32 ∷ 52 ∷ 50 ∷ 57 ∷ 52 ∷ 57 ∷ 54 ∷ 55 ∷ 50 ∷ 57 ∷ 53 ∷ 10 ∷ []
unfolding one three line_text decimal digits_of leading
worked-text = refl

worked : sheet_of worked_input ≡ worked_output
unfolding one three
worked =
    let kept-one : KeepsRules one = record { few = omega arith; near = omega arith; far = omega arith } in
    let kept-three : KeepsRules three = record { few = omega arith; near = omega arith; far = omega arith } in
    let p = good_record one (line_record three ++ []) (line_text three ++ []) kept-one (good_record three [] [] kept-three nothing_left) in
    ap (λ (t : List ℕ). header_text ++ t) (ap text_of (sym worked-input)
    ∙ sym (only (line_record one ++ (line_record three ++ [])) (line_text one ++ (line_text three ++ [])) p) ∙ worked-text)

pub sheets : Sheets
sheets = record {
  prints = λ octets all. prints-within (length octets) octets (omega arith) all;
  only = only;
  two = λ first rest k h. two k first rest h;
  chunks = λ parts w. ap (λ (t : List ℕ). header_text ++ t) (chunked parts w);
  nothing = ap (λ (t : List ℕ). header_text ++ t) text-none;
  left_over = λ octets some few. all-refused octets some (few-refused octets few);
  other_kind = λ octets some n. all-refused octets some ((loss-records.refuses_7 octets).1 (inl (wrong_kind n)));
  worked = worked;
}
