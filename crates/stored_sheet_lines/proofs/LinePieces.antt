-- A line made from its end to its front, and the text of one record. Assumes nothing.
use Prim.Native.Nat.{ℕ, suc, ◌+◌, ◌-◌, ◌≤◌, ◌<◌}
use mathlib.Core.Path.{◌≡◌, refl, sym, ap, ap₂, ◌∙◌}
use mathlib.Core.List.{List, [], ◌∷◌, ◌++◌, append_assoc}
use mathlib.Core.Bool.{Bool, true, false}
use native.Mathlib.Omega.{arith}
use lib.IntN.{ℤ, pos}
use lib.ListN.{length, set, take, drop, length-append, length-set, length-drop, drop_of_length-le}
use lib.Seq.{take_all, drop-cons, drop-set-lt, get_or-set_same}
use mir.Syntax.{w64}
use mir.Val.{SFits}
use Rattle.std.specs.Prelude.{Option, Some, None, Result, Ok, Err}
use Rattle.base_laws.specs.Lists.{laid}
use Rattle.base_number_text.specs.Decimal.{decimal}
use Rattle.base_number_text.specs.Before.{put_before, beginning}
use Rattle.base_number_text.proofs.Decimal.{decimals}
use Rattle.base_number_text.proofs.Before.{puts_before}
use Rattle.stored_line.specs.declared.LossLine.{LossLine}
use Rattle.stored_line.specs.LineCalls.{read_line}
use Rattle.stored_sheet.specs.Sheet.{refused_text, line_text, answer_text, is_line, longest_line}
use Rattle.stored_sheet_lines.specs.Chunk.{reached}

-- ── a line made from its end ──

-- `text` stands in the last octets of t, from `at` on
pub record Made (t : List ℕ) (at : ℕ) (text : List ℕ) : Type 0 where
  pub long : length t ≡ longest_line
  pub is : drop at t ≡ text
  pub reach : at + length text ≡ longest_line

pub made_none : (t : List ℕ) → length t ≡ longest_line → Made t longest_line []
made_none t h = let all : length t ≤ longest_line = omega arith in record { long = h; is = drop_of_length-le t all; reach = omega arith }

module _ {t : List ℕ} {at : ℕ} {text : List ℕ} (m : Made t at text) (low : 21 ≤ at) (mark : ℕ) where
  marked : List ℕ
  marked = set t (at - 1) mark

  marked_long : length marked ≡ longest_line
  unfolding marked
  marked_long = length-set t (at - 1) mark ∙ m.long

  -- one octet stored in front of the text
  marked_is : drop (at - 1) marked ≡ mark ∷ text
  unfolding marked
  marked_is =
      let i = at - 1 in
      let within : i < length t = omega (arith, m.long, m.reach) in
      let next : suc i ≡ at = omega arith in
      drop-cons marked i 0 (omega (arith, marked_long, m.reach))
      ∙ ap₂ (λ (y : ℕ) (l : List ℕ). y ∷ l) (get_or-set_same t i mark 0 within)
      (drop-set-lt (suc i) t i mark (omega arith) ∙ ap (λ (k : ℕ). drop k t) next ∙ m.is)

  -- and a number in front of that
  module _ (z : ℤ) {given : ℤ} (same : given ≡ z) (fits : SFits w64 z) {after : List ℕ} {r : ℕ}
      (put : (after ≡ put_before (at - 1) given (set t (at - 1) mark)) × (r ≡ beginning (at - 1) given (set t (at - 1) mark))) where
    high : at - 1 ≤ length marked
    high = omega (arith, marked_long, m.reach)

    put_is : (after ≡ put_before (at - 1) z marked) × (r ≡ beginning (at - 1) z marked)
    unfolding marked
    put_is = rw same at put

    short : length (decimal z) ≤ 20
    short = decimals.longest z fits

    place : r ≡ at - 1 - length (decimal z)
    place = put_is.1 ∙ puts_before.begins (at - 1) z marked (omega arith) high

    pub made_room : at ≤ r + 21
    made_room = omega (arith, place, short)

    pub made_next : Made after r (decimal z ++ (mark ∷ text))
    made_next = record {
      long = ap length put_is.0 ∙ puts_before.long (at - 1) z marked fits ∙ marked_long;
      is = ap₂ (λ (l : List ℕ) (k : ℕ). drop k l) put_is.0 put_is.1 ∙ puts_before.text (at - 1) z marked fits (omega arith) high
          ∙ ap (λ (l : List ℕ). decimal z ++ l) marked_is;
      reach = omega (arith, place, short, m.reach, length-append (decimal z) (mark ∷ text));
    }

-- the three numbers of a line with what stands behind each, copied from where they were made
pub line_copied : (at : ℕ) (line : LossLine) (l : List ℕ) {t after : List ℕ} {front : ℕ}
    → Made t front (decimal (pos line.intervals) ++ (32 ∷ (decimal line.near ++ (32 ∷ (decimal line.far ++ (10 ∷ []))))))
    → after ≡ laid at (take (longest_line - front) (drop front t)) l
    → (after ≡ laid at (line_text line) l) × (at + (longest_line - front) ≡ at + length (line_text line))
    × (at + (longest_line - front) ≤ at + longest_line)
unfolding line_text
line_copied at line l {t} {after} {front} m e =
    let is : drop front t ≡ line_text line = m.is ∙ whole in
    let all = take_all (longest_line - front) (drop front t) (omega (arith, length-drop front t, m.long)) in
    (e ∙ ap (λ (xs : List ℕ). laid at xs l) (all ∙ is), omega (arith, m.reach, ap length whole), omega arith)
  where
    whole : decimal (pos line.intervals) ++ (32 ∷ (decimal line.near ++ (32 ∷ (decimal line.far ++ (10 ∷ []))))) ≡ line_text line
    whole = simp append_assoc

-- ── the text of one record ──

-- what is written of it, and the place behind that, as the answer says it
abbrev pub Next : ℕ → List ℕ → List ℕ → List ℕ → Result ℕ ℕ → Type 0
Next at from l after r = (after ≡ laid at (answer_text (read_line from)) l) × (r ≡ reached at (read_line from))

module _ (at : ℕ) (from l : List ℕ) where
  pub next-refused : {after : List ℕ} → read_line from ≡ None → after ≡ laid at refused_text l → Next at from l after (Err (at + 10))
  unfolding answer_text reached
  next-refused e f = rw e (f, refl)

  pub next-line : (line : LossLine) {after : List ℕ} {place : ℕ} → read_line from ≡ Some line
      → (after ≡ laid at (line_text line) l) × (place ≡ at + length (line_text line)) × (place ≤ at + longest_line)
      → Next at from l after (Ok place)
  unfolding answer_text reached
  next-line line e w = rw e (w.0, ap (λ (n : ℕ). Ok n) w.1)

-- the place that an answer names, and whether it is one behind a line
place_in : Result ℕ ℕ → ℕ
place_in (Ok n) = n
place_in (Err n) = n

is_ok : Result ℕ ℕ → Bool
is_ok (Ok n) = true
is_ok (Err n) = false

places : (at : ℕ) (o : Option LossLine)
    → (place_in (reached at o) ≡ at + length (answer_text o)) × (is_ok (reached at o) ≡ is_line o)
unfolding answer_text is_line reached place_in is_ok
places at None = (refl, refl)
places at (Some line) = (refl, refl)

module _ (at : ℕ) (o : Option LossLine) {place : ℕ} where
  -- what an answer says of the record
  pub reached-line : reached at o ≡ Ok place → (place ≡ at + length (answer_text o)) × (true ≡ is_line o)
  unfolding place_in is_ok
  reached-line e = (ap place_in (sym e) ∙ (places at o).0, ap is_ok (sym e) ∙ (places at o).1)

  pub reached-refusal : reached at o ≡ Err place → (place ≡ at + length (answer_text o)) × (false ≡ is_line o)
  unfolding place_in is_ok
  reached-refusal e = (ap place_in (sym e) ∙ (places at o).0, ap is_ok (sym e) ∙ (places at o).1)
