-- The statement of specs/Before.antt. Assumes nothing.
use Prim.Native.Nat.{ℕ, suc, ◌+◌, ◌-◌, ◌≤◌, ◌<◌}
use mathlib.Core.Path.{◌≡◌, refl, sym, ap, ◌∙◌}
use mathlib.Core.Bool.{and-false}
use mathlib.Core.List.{List, ◌∷◌, ◌++◌, append_assoc}
use mathlib.Core.Logic.{◌⊎◌, inl, inr, ⊎_elim}
use native.Mathlib.Omega.{arith}
use lib.Dec.{leb}
use lib.IntN.{ℤ, pos, negsuc, nat_abs}
use lib.ListN.{length, take, drop}
use lib.Seq.{length-take-le, drop_at, drop-drop}
use borrow.Author.Tests.{le-leb, lt-leb, leb-true, leb-false}
use mir.Syntax.{w64}
use mir.Val.{SFits}
use Rattle.base_laws.specs.Lists.{laid}
use Rattle.base_laws.proofs.Overlaid.{length-laid}
use Rattle.base_laws.proofs.Tests.{known}
use Rattle.base_number_text.specs.Decimal.{digits_of, decimal}
use Rattle.base_number_text.specs.Before.{longest_number, put_before, beginning, PutsBefore}
use Rattle.base_number_text.proofs.Decimal.{most, size_small}

-- what stands from where something is laid on
drop-laid : (at : ℕ) (xs l : List ℕ) → at + length xs ≤ length l → drop at (laid at xs l) ≡ xs ++ drop (at + length xs) l
unfolding laid
drop-laid at xs l h =
    let q = drop (at + length xs) l in
    ap (drop at) (append_assoc (take at l) xs q) ∙ drop_at (take at l) (xs ++ q) at (length-take-le at l (omega arith))

-- the digits of a size end before the place, with '-' in front: they stand behind it, and with it
module _ (end n : ℕ) (s : List ℕ) (low : longest_number ≤ end) (high : end ≤ length s) (few : length (digits_of n) ≤ 19) where
  there : List ℕ
  there = laid (end - length (digits_of n) - 1) (45 ∷ digits_of n) s

  with_sign : drop (end - length (digits_of n) - 1) there ≡ 45 ∷ (digits_of n ++ drop end s)
  unfolding there
  with_sign =
      let at = end - length (digits_of n) - 1 in
      let up : at + suc (length (digits_of n)) ≡ end = omega arith in
      drop-laid at (45 ∷ digits_of n) s (omega arith) ∙ ap (λ (m : ℕ). 45 ∷ (digits_of n ++ drop m s)) up

  without : drop (end - length (digits_of n)) there ≡ digits_of n ++ drop end s
  without =
      let at = end - length (digits_of n) - 1 in
      let next : end - length (digits_of n) ≡ at + 1 = omega arith in
      ap (λ (m : ℕ). drop m there) next ∙ sym (drop-drop 1 at there) ∙ ap (drop 1) with_sign

  there-long : length there ≡ length s
  unfolding there
  there-long = length-laid (end - length (digits_of n) - 1) (45 ∷ digits_of n) s (omega arith)

few-digits : (z : ℤ) → SFits w64 z → length (digits_of (nat_abs z)) ≤ 19
few-digits z f = most (nat_abs z) 19 (size_small z f) (omega arith)

module _ (end : ℕ) (z : ℤ) (s : List ℕ) where
  module _ (low : longest_number ≤ end) (high : end ≤ length s) where
    pub before-laid : put_before end z s ≡ laid (end - length (digits_of (nat_abs z)) - 1) (45 ∷ digits_of (nat_abs z)) s
    unfolding put_before
    before-laid = rw (le-leb _ _ low, le-leb _ _ high)

    pub before-begins : beginning end z s ≡ end - length (decimal z)
    unfolding beginning
    before-begins = rw (le-leb _ _ low, le-leb _ _ high)

  pub before-untouched : (end < longest_number) ⊎ (length s < end) → (put_before end z s ≡ s) × (beginning end z s ≡ end)
  unfolding put_before beginning
  before-untouched (inl h) = rw (lt-leb _ _ h) (refl, refl)
  before-untouched (inr h) = rw (lt-leb _ _ h, and-false) (refl, refl)

  -- there is room, or there is not
  cases : ((longest_number ≤ end) × (end ≤ length s)) ⊎ ((end < longest_number) ⊎ (length s < end))
  cases = ⊎_elim (λ t. ⊎_elim (λ u. inl (leb-true _ _ t, leb-true _ _ u)) (λ u. inr (inr (leb-false _ _ u))) (known (leb end (length s))))
      (λ t. inr (inl (leb-false _ _ t))) (known (leb longest_number end))

  pub before-long : SFits w64 z → length (put_before end z s) ≡ length s
  unfolding there
  before-long f =
      ⊎_elim
      (λ h. ap length (before-laid h.0 h.1) ∙ there-long end (nat_abs z) s h.0 h.1 (few-digits z f))
      (λ h. ap length (before-untouched h).0)
      cases

pub before_text : (end : ℕ) (z : ℤ) (s : List ℕ) → SFits w64 z → longest_number ≤ end → end ≤ length s
    → drop (beginning end z s) (put_before end z s) ≡ decimal z ++ drop end s
unfolding decimal there
before_text end (pos n) s f low high =
    rw (before-begins end (pos n) s low high, before-laid end (pos n) s low high) (without end n s low high (few-digits (pos n) f))
before_text end (negsuc n) s f low high =
    let sign : end - suc (length (digits_of (suc n))) ≡ end - length (digits_of (suc n)) - 1 = omega arith in
    rw (before-begins end (negsuc n) s low high, before-laid end (negsuc n) s low high, sign)
    (with_sign end (suc n) s low high (few-digits (negsuc n) f))

pub puts_before : PutsBefore
puts_before = record { text = before_text; begins = before-begins; untouched = before-untouched; long = before-long }
