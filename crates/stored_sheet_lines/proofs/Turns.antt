-- One turn of the loop over a chunk's records. Assumes nothing.
use Prim.Native.Nat.{ℕ, ◌+◌, ◌*◌, ◌≤◌, ◌<◌, min}
use mathlib.Core.Path.{◌≡◌, refl, sym, ap, ◌∙◌}
use mathlib.Core.List.{List, [], ◌++◌, append-nil, append_assoc}
use mathlib.Core.Bool.{true, false}
use mathlib.Core.Logic.{⊎_elim}
use native.Mathlib.Omega.{arith}
use lib.Dec.{ltb}
use lib.ListN.{length, drop, length-append, drop_of_length-le}
use lib.Seq.{drop_at}
use borrow.Author.Tests.{ltb-true, ltb-false}
use Rattle.base_laws.specs.Ended.{wrote}
use Rattle.base_laws.specs.Lists.{laid}
use Rattle.base_laws.proofs.Overlaid.{laid_none, length-laid}
use Rattle.base_laws.proofs.Pieces.{Has, first, more}
use Rattle.base_laws.proofs.Tests.{known}
use Rattle.stored_line.specs.LineCalls.{read_line}
use Rattle.stored_line.proofs.LineRecords.{loss-records}
use Rattle.stored_sheet.specs.Sheet.{answer_text, is_line, text_of, all_good, longest_line}
use Rattle.stored_sheet_lines.specs.Chunk.{room, reached, write_lines}
use Rattle.std.specs.Prelude.{Result, Ok, Err}
use Rattle.stored_sheet_lines.specs.declared.Printed.TheVariants.{All, Stopped}
use Rattle.stored_sheet.proofs.LineOrNot.{few-refused, whole_record}
use Rattle.stored_sheet.proofs.Text.{answer-long, text-none, good_none, text-good, good-good, text-bad, good-bad}
use Rattle.stored_sheet_lines.proofs.Chunks.{ends-all, ends-stopped}
use Rattle.stored_sheet_lines.proofs.LinePieces.{reached-line, reached-refusal}

-- the text of what was read stands in the buffer, as far as `at`; what is still to come is the text of what is left
pub record SoFar (from before into left : List ℕ) (at : ℕ) : Type 0 where
  pub text : List ℕ
  pub long : length text ≡ at
  pub is : into ≡ laid 0 text before
  pub rest : text_of from ≡ text ++ text_of left
  pub good : all_good from ≡ all_good left
  pub most : at + 3 * length left ≤ 3 * length from
  pub same : length into ≡ length before

pub at-start : (from before : List ℕ) → SoFar from before before from 0
at-start from before = record {
  text = [];
  long = refl;
  is = sym (laid_none 0 before);
  rest = refl;
  good = refl;
  most = omega arith;
  same = refl;
}

module _ {from before into left : List ℕ} {at : ℕ} (s : SoFar from before into left at) (h : room from ≤ length before) where
  pub at-end : length left ≡ 0 → wrote (Ok (All at)) into ≡ write_lines from before
  at-end k =
      let none : left ≡ [] = drop_of_length-le left {i = 0} (omega arith) in
      let all : text_of from ≡ s.text = s.rest ∙ ap (λ (l : List ℕ). s.text ++ text_of l) none
      ∙ ap (λ (l : List ℕ). s.text ++ l) text-none ∙ append-nil s.text in
      ends-all from before h (s.good ∙ ap all_good none ∙ good_none) (sym s.long ∙ ap length (sym all))
      (s.is ∙ ap (λ (l : List ℕ). laid 0 l before) (sym all))

  -- a line has room
  pub line-room : at + longest_line ≤ length into
  line-room = omega (arith, h, s.most, s.same)

  -- the next record is cut off, and its text is put behind
  module _ (front rest : List ℕ) (cut : left ≡ front ++ rest) {n : ℕ} (each : n ≡ 24) (size : length front ≡ min n (length left))
      (some : 0 < length left) {after : List ℕ} (e : after ≡ laid at (answer_text (read_line front)) into) where
    -- it reads as it did in front of the rest
    alone : read_line front ≡ read_line left
    alone = ⊎_elim (λ t. few (ltb-true (length left) 24 t)) (λ t. whole (ltb-false (length left) 24 t)) (known (ltb (length left) 24))
      where
        few : length left < 24 → read_line front ≡ read_line left
        few k = few-refused front (omega arith) ∙ sym (few-refused left k)

        whole : 24 ≤ length left → read_line front ≡ read_line left
        whole k = sym (ap read_line cut ∙ loss-records.front_alone front rest (omega arith))

    put_text : after ≡ laid at (answer_text (read_line left)) into
    put_text = rw alone at e

    abbrev now_text : List ℕ
    now_text = s.text ++ answer_text (read_line left)

    fits : 0 + length s.text + length (answer_text (read_line left)) ≤ length before
    fits = omega (arith, h, s.most, s.long, answer-long left)

    put : Has 0 (length s.text + length (answer_text (read_line left))) now_text before after
    put =
        more (length (answer_text (read_line left))) (answer_text (read_line left)) (first 0 (length s.text) s.text before s.is refl)
        (put_text ∙ ap (λ (n : ℕ). laid n (answer_text (read_line left)) into) here) refl fits
      where
        here : at ≡ 0 + length s.text
        here = omega (arith, s.long)

    reaches : {place : ℕ} → place ≡ at + length (answer_text (read_line front)) → place ≡ length now_text
    reaches f = let here = rw alone at f in omega (arith, here, s.long, put.long)

    module _ {r : Result ℕ ℕ} (answer : r ≡ reached at (read_line front)) {place : ℕ} where
      pub turn_stops : r ≡ Err place → wrote (Ok (Stopped place)) after ≡ write_lines from before
      turn_stops k =
          let told = reached-refusal at (read_line front) (sym answer ∙ k) in
          let bad : is_line (read_line left) ≡ false = sym (told.1 ∙ ap is_line alone) in
          let all : text_of from ≡ now_text = s.rest ∙ ap (λ (l : List ℕ). s.text ++ l) (text-bad left some bad) in
          ends-stopped from before h (s.good ∙ good-bad left some bad) (reaches told.0 ∙ ap length (sym all))
          (put.is ∙ ap (λ (l : List ℕ). laid 0 l before) (sym all))

      pub turn_goes : r ≡ Ok place → SoFar from before after rest place
      turn_goes k =
          let told = reached-line at (read_line front) (sym answer ∙ k) in
          let good : is_line (read_line left) ≡ true = sym (told.1 ∙ ap is_line alone) in
          let whole : 24 ≤ length left = whole_record left good in
          let both : length left ≡ length front + length rest = ap length cut ∙ length-append front rest in
          let next : drop 24 left ≡ rest = ap (drop 24) cut ∙ drop_at front rest 24 (omega arith) in
          record {
            text = now_text;
            long = sym (reaches told.0);
            is = put.is;
            rest = s.rest ∙ ap (λ (l : List ℕ). s.text ++ l) (text-good left some good)
                ∙ sym (append_assoc s.text (answer_text (read_line left)) (text_of (drop 24 left)))
                ∙ ap (λ (l : List ℕ). now_text ++ text_of l) next;
            good = s.good ∙ good-good left some good ∙ ap all_good next;
            most = omega (arith, s.most, reaches told.0, put.long, s.long, answer-long left);
            same = ap length put_text ∙ length-laid at (answer_text (read_line left)) into (omega (arith, fits, s.long, s.same)) ∙ s.same;
          }
