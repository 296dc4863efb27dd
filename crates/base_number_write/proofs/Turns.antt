-- One turn of the loop of src/lib.rt, and what stands when it has ended. Assumes nothing.
use Prim.Native.Nat.{ℕ, ◌+◌, ◌-◌, ◌/◌, ◌%◌, ◌≤◌, ◌<◌}
use mathlib.Core.Path.{◌≡◌, refl, sym, ap, ◌∙◌}
use mathlib.Core.List.{List, [], ◌∷◌, ◌++◌, append-nil}
use mathlib.Core.Logic.{⊎_elim}
use native.Mathlib.Omega.{arith}
use lib.Dec.{ltb}
use lib.ListN.{length, set, length-append}
use lib.Seq.{set-set}
use borrow.Author.Tests.{ltb-true, ltb-false}
use Rattle.base_laws.specs.Lists.{laid}
use Rattle.base_laws.proofs.Overlaid.{laid_none, laid_one, laid-before, length-laid}
use Rattle.base_laws.proofs.Tests.{known}
use Rattle.base_number_text.specs.Decimal.{digit, digits_of}
use Rattle.base_number_text.proofs.Digits.{is}
use Rattle.base_number_text.proofs.Last.{digits-one, digits-two, digits_pair}

-- two octets laid right before others
pair_before : (at a b : ℕ) (last s : List ℕ) → at + 2 + length last ≤ length s
    → laid at (a ∷ b ∷ []) (laid (at + 2) last s) ≡ laid at (a ∷ b ∷ last) s
pair_before at a b last s h =
    let under = laid (at + 2) last s in
    let long : length under ≡ length s = length-laid (at + 2) last s h in
    let two : at + 2 ≡ at + 1 + 1 = omega arith in
    sym (laid-before at (b ∷ []) under a (omega arith))
    ∙ ap (λ (l : List ℕ). set l at a) (sym (laid_one (at + 1) under b (omega arith))
    ∙ ap (λ (m : ℕ). set (laid m last s) (at + 1) b) two
    ∙ laid-before (at + 1) last s b (omega arith))
    ∙ laid-before at (b ∷ last) s a (omega arith)

-- the first of what is laid, stored anew
front-anew : (at x y : ℕ) (xs s : List ℕ) → at + 1 + length xs ≤ length s → set (laid at (x ∷ xs) s) at y ≡ laid at (y ∷ xs) s
front-anew at x y xs s h =
    ap (λ (l : List ℕ). set l at y) (sym (laid-before at xs s x h)) ∙ set-set (laid (at + 1) xs s) at x y ∙ laid-before at xs s y h

-- the last digits of n are laid from `at` to `end`, and `rest` is n without them
pub record Writing (end n : ℕ) (s into : List ℕ) (rest at : ℕ) : Type 0 where
  pub last : List ℕ
  pub reach : at + length last ≡ end
  pub same : length into ≡ length s
  pub written : into ≡ laid at last s
  pub whole : digits_of n ≡ digits_of rest ++ last

pub writing_start : (end n : ℕ) (s : List ℕ) → Writing end n s s n end
writing_start end n s =
    record { last = []; reach = omega arith; same = refl; written = sym (laid_none end s); whole = sym (append-nil (digits_of n)) }

module _ {end n : ℕ} {s into : List ℕ} {rest at : ℕ} (w : Writing end n s into rest at) (few : length (digits_of n) ≤ 19) (low : 20 ≤ end)
    (high : end ≤ length s) where
  counted : length (digits_of n) ≡ length (digits_of rest) + length w.last
  counted = ap length w.whole ∙ length-append (digits_of rest) w.last

  pub writing_room : 2 ≤ at
  writing_room = omega (arith, counted, w.reach, (is rest).some)

  paired : (a b : ℕ) → laid (at - 2) (a ∷ b ∷ []) into ≡ laid (at - 2) (a ∷ b ∷ w.last) s
  paired a b =
      let up : at ≡ at - 2 + 2 = omega (arith, writing_room) in
      ap (laid (at - 2) (a ∷ b ∷ [])) (w.written ∙ ap (λ (m : ℕ). laid m w.last s) up)
      ∙ pair_before (at - 2) a b w.last s (omega (arith, w.reach))

  pub writing_next : {after : List ℕ} → 100 ≤ rest
      → after ≡ laid (at - 2) (digit (rest % 100 / 10) ∷ digit (rest % 100 % 10) ∷ []) into
      → Writing end n s after (rest / 100) (at - 2)
  writing_next h e =
      let a = digit (rest % 100 / 10) in
      let b = digit (rest % 100 % 10) in
      record {
        last = a ∷ b ∷ w.last;
        reach = omega (arith, w.reach, writing_room);
        same = ap length (e ∙ paired a b) ∙ length-laid (at - 2) (a ∷ b ∷ w.last) s (omega (arith, w.reach, writing_room));
        written = e ∙ paired a b;
        whole = w.whole ∙ digits_pair rest w.last h;
      }

  -- where the digits begin, and '-' in front of them
  pub begins : at - length (digits_of rest) + length (digits_of n) ≡ end
  begins = omega (arith, counted, w.reach)

  pub begins-behind : 1 ≤ at - length (digits_of rest)
  begins-behind = omega (arith, counted, w.reach)

  pub writing_end : {after : List ℕ} → rest < 100 → after ≡ laid (at - 2) (digit (rest / 10) ∷ digit (rest % 10) ∷ []) into
      → set after (at - length (digits_of rest) - 1) 45 ≡ laid (at - length (digits_of rest) - 1) (45 ∷ digits_of n) s
  writing_end {after} h e = ⊎_elim (λ t. one (ltb-true rest 10 t)) (λ f. two (ltb-false rest 10 f)) (known (ltb rest 10))
    where
      a : ℕ
      a = digit (rest / 10)

      b : ℕ
      b = digit (rest % 10)

      Ends : ℕ → Type 0
      Ends k = set after (at - k - 1) 45 ≡ laid (at - k - 1) (45 ∷ digits_of n) s

      one : rest < 10 → Ends (length (digits_of rest))
      one l =
          let d = digits-one rest l in
          let place : at - 1 - 1 ≡ at - 2 = omega arith in
          let b-is : rest % 10 ≡ rest = omega arith in
          rw (ap length d, place, e, paired a b, w.whole, d)
          (front-anew (at - 2) a 45 (b ∷ w.last) s (omega (arith, w.reach, writing_room))
          ∙ ap (λ (m : ℕ). laid (at - 2) (45 ∷ digit m ∷ w.last) s) b-is)

      two : 10 ≤ rest → Ends (length (digits_of rest))
      two l =
          let d = digits-two rest l h in
          let place : at - 2 ≡ at - 2 - 1 + 1 = omega (arith, begins-behind, ap length d) in
          rw (ap length d, e, paired a b, w.whole, d)
          (ap (λ (m : ℕ). set (laid m (a ∷ b ∷ w.last) s) (at - 2 - 1) 45) place
          ∙ laid-before (at - 2 - 1) (a ∷ b ∷ w.last) s 45 (omega (arith, w.reach, writing_room, begins-behind, ap length d)))
