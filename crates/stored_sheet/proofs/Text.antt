-- The text of octets, record by record: that the bound on their number does not matter, the next record, and how long it is. Assumes
-- nothing.
use Prim.Native.Nat.{ℕ, zero, suc, ◌+◌, ◌*◌, ◌≤◌, ◌<◌}
use mathlib.Core.Path.{◌≡◌, refl, ap, ◌∙◌}
use mathlib.Core.List.{List, [], ◌∷◌, ◌++◌, append-nil}
use mathlib.Core.Bool.{Bool, true, false, ◌&&◌, cond}
use mathlib.Core.Logic.{◌⊎◌, inl, inr}
use native.Mathlib.Omega.{arith}
use lib.IntN.{ℤ, pos}
use lib.ListN.{length, drop, length-append, length-drop}
use mir.Syntax.{w64}
use mir.Val.{SFits}
use Rattle.base_laws.proofs.Tests.{known}
use Rattle.base_laws.proofs.Stored.{fits-size}
use Rattle.base_number_text.specs.Decimal.{decimal}
use Rattle.base_number_text.proofs.Decimal.{decimals}
use Rattle.stored_line.specs.declared.LossLine.{LossLine}
use Rattle.stored_line.specs.LineCalls.{read_line}
use Rattle.stored_line.proofs.Laws.{near_fits, far-fits}
use Rattle.stored_line.proofs.LineRecords.{loss-records}
use Rattle.stored_sheet.specs.Sheet.{line_text, answer_text, is_line, text_within, good_within, text_of, all_good, longest_line}
use Rattle.stored_sheet.proofs.LineOrNot.{Read, a_line, refused, read, whole_record}

-- ── the bound does not matter ──

shorter : (x : ℕ) (xs : List ℕ) (n : ℕ) → length (x ∷ xs) ≤ suc n → length (drop 24 (x ∷ xs)) ≤ n
shorter x xs n h = omega (arith, h, length-drop 24 (x ∷ xs))

within_text : (n m : ℕ) (octets : List ℕ) → length octets ≤ n → length octets ≤ m → text_within n octets ≡ text_within m octets
unfolding text_within
within_text zero zero [] h k = refl
within_text zero (suc m) [] h k = refl
within_text (suc n) zero [] h k = refl
within_text (suc n) (suc m) [] h k = refl
within_text zero m (x ∷ xs) h k = absurd (omega (arith, h))
within_text (suc n) zero (x ∷ xs) h k = absurd (omega (arith, k))
within_text (suc n) (suc m) (x ∷ xs) h k =
    ap (λ (rest : List ℕ). answer_text (read_line (x ∷ xs)) ++ cond (is_line (read_line (x ∷ xs))) rest [])
    (within_text n m (drop 24 (x ∷ xs)) (shorter x xs n h) (shorter x xs m k))

within-good : (n m : ℕ) (octets : List ℕ) → length octets ≤ n → length octets ≤ m → good_within n octets ≡ good_within m octets
unfolding good_within
within-good zero zero [] h k = refl
within-good zero (suc m) [] h k = refl
within-good (suc n) zero [] h k = refl
within-good (suc n) (suc m) [] h k = refl
within-good zero m (x ∷ xs) h k = absurd (omega (arith, h))
within-good (suc n) zero (x ∷ xs) h k = absurd (omega (arith, k))
within-good (suc n) (suc m) (x ∷ xs) h k =
    ap (λ (rest : Bool). is_line (read_line (x ∷ xs)) && rest)
    (within-good n m (drop 24 (x ∷ xs)) (shorter x xs n h) (shorter x xs m k))

-- ── record by record ──

pub text-none : text_of [] ≡ []
unfolding text_within
text-none = refl

pub good_none : all_good [] ≡ true
unfolding good_within
good_none = refl

pub text-next : (octets : List ℕ) → 0 < length octets
    → text_of octets ≡ answer_text (read_line octets) ++ cond (is_line (read_line octets)) (text_of (drop 24 octets)) []
unfolding text_within
text-next [] h = absurd (omega (arith, h))
text-next (x ∷ xs) h =
    ap (λ (rest : List ℕ). answer_text (read_line (x ∷ xs)) ++ cond (is_line (read_line (x ∷ xs))) rest [])
    (within_text (length xs) (length (drop 24 (x ∷ xs))) (drop 24 (x ∷ xs)) (shorter x xs (length xs) (omega arith)) (omega arith))

pub good-next : (octets : List ℕ) → 0 < length octets → all_good octets ≡ (is_line (read_line octets) && all_good (drop 24 octets))
unfolding good_within
good-next [] h = absurd (omega (arith, h))
good-next (x ∷ xs) h =
    ap (λ (rest : Bool). is_line (read_line (x ∷ xs)) && rest)
    (within-good (length xs) (length (drop 24 (x ∷ xs))) (drop 24 (x ∷ xs)) (shorter x xs (length xs) (omega arith)) (omega arith))

-- a good one, and the rest; a bad one, and nothing
module _ (octets : List ℕ) (some : 0 < length octets) where
  module _ (b : is_line (read_line octets) ≡ true) where
    pub text-good : text_of octets ≡ answer_text (read_line octets) ++ text_of (drop 24 octets)
    text-good = text-next octets some ∙ ap (λ (t : Bool). answer_text (read_line octets) ++ cond t (text_of (drop 24 octets)) []) b

    pub good-good : all_good octets ≡ all_good (drop 24 octets)
    good-good = good-next octets some ∙ ap (λ (t : Bool). t && all_good (drop 24 octets)) b

  module _ (b : is_line (read_line octets) ≡ false) where
    pub text-bad : text_of octets ≡ answer_text (read_line octets)
    text-bad =
        text-next octets some ∙ ap (λ (t : Bool). answer_text (read_line octets) ++ cond t (text_of (drop 24 octets)) []) b
        ∙ append-nil (answer_text (read_line octets))

    pub good-bad : all_good octets ≡ false
    good-bad = good-next octets some ∙ ap (λ (t : Bool). t && all_good (drop 24 octets)) b

-- ── how long ──

number-long : (z : ℤ) (mark : ℕ) → SFits w64 z → length (decimal z ++ (mark ∷ [])) ≤ 21
number-long z mark fits = omega (arith, length-append (decimal z) (mark ∷ []), decimals.longest z fits)

pub line-long : (line : LossLine) → SFits w64 (pos line.intervals) → SFits w64 line.near → SFits w64 line.far
    → length (line_text line) ≤ longest_line
unfolding line_text
line-long line i n f =
    let a = decimal (pos line.intervals) ++ (32 ∷ []) in
    let b = decimal line.near ++ (32 ∷ []) in
    let c = decimal line.far ++ (10 ∷ []) in
    omega (
      arith,
      length-append (a ++ b) c,
      length-append a b,
      number-long (pos line.intervals) 32 i,
      number-long line.near 32 n,
      number-long line.far 10 f,
    )

pub answer-long : (octets : List ℕ) → length (answer_text (read_line octets)) ≤ longest_line
unfolding answer_text
answer-long octets = by (read octets)
  where
    by : Read octets → length (answer_text (read_line octets)) ≤ longest_line
    by (refused e) = rw e (omega arith)
    by (a_line line e) =
        let k = loss-records.kept octets line e in
        rw e (line-long line (fits-size (pos line.intervals) (omega (arith, k.few))) (near_fits line k) (far-fits line k))

-- three octets for each octet, and one line more, hold the text
pub text-long : (n : ℕ) (octets : List ℕ) → length octets ≤ n → length (text_of octets) ≤ 3 * length octets + longest_line
text-long zero [] h = rw text-none (omega arith)
text-long zero (x ∷ xs) h = absurd (omega (arith, h))
text-long (suc n) [] h = rw text-none (omega arith)
text-long (suc n) (x ∷ xs) h = by (text-long n (drop 24 (x ∷ xs)) (shorter x xs n h)) (known (is_line (read_line (x ∷ xs))))
  where
    by : length (text_of (drop 24 (x ∷ xs))) ≤ 3 * length (drop 24 (x ∷ xs)) + longest_line
        → (is_line (read_line (x ∷ xs)) ≡ true) ⊎ (is_line (read_line (x ∷ xs)) ≡ false)
        → length (text_of (x ∷ xs)) ≤ 3 * length (x ∷ xs) + longest_line
    by rest (inl b) =
        let long = whole_record (x ∷ xs) b in
        let size : length (text_of (x ∷ xs)) ≡ length (answer_text (read_line (x ∷ xs))) + length (text_of (drop 24 (x ∷ xs))) =
        ap length (text-good (x ∷ xs) (omega arith) b) ∙ length-append (answer_text (read_line (x ∷ xs))) (text_of (drop 24 (x ∷ xs))) in
        omega (arith, size, rest, answer-long (x ∷ xs), long, length-drop 24 (x ∷ xs))
    by rest (inr b) = omega (arith, ap length (text-bad (x ∷ xs) (omega arith) b), answer-long (x ∷ xs))
