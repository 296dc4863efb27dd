-- The digits of a number from its end: the last ones behind those of what is left without them. Assumes nothing.
use Prim.Native.Nat.{ℕ, zero, suc, ◌/◌, ◌%◌, ◌≤◌, ◌<◌}
use mathlib.Core.Path.{◌≡◌, refl, sym, ap, ◌∙◌}
use mathlib.Core.List.{List, [], ◌∷◌, ◌++◌, append_assoc}
use native.Mathlib.Omega.{arith}
use Rattle.base_number_text.specs.Decimal.{digit, leading, digits_of}

-- how often may be divided makes no difference, once it is often enough
same-leading : (a b n : ℕ) → n ≤ a → n ≤ b → leading a n ≡ leading b n
unfolding leading
same-leading zero zero n h k = refl
same-leading zero (suc b) zero h k = refl
same-leading zero (suc b) (suc n) h k = absurd (omega arith)
same-leading (suc a) zero zero h k = refl
same-leading (suc a) zero (suc n) h k = absurd (omega arith)
same-leading (suc a) (suc b) zero h k = refl
same-leading (suc a) (suc b) (suc n) h k =
    ap (λ (t : List ℕ). t ++ (digit (suc n % 10) ∷ [])) (same-leading a b (suc n / 10) (omega arith) (omega arith))

digits-leading : (n : ℕ) → 1 ≤ n → digits_of n ≡ leading n n
unfolding digits_of
digits-leading zero h = absurd (omega arith)
digits-leading (suc n) h = refl

digits_last : (n : ℕ) → 10 ≤ n → digits_of n ≡ digits_of (n / 10) ++ (digit (n % 10) ∷ [])
unfolding leading
digits_last zero h = absurd (omega arith)
digits_last (suc n) h =
    let tenth = suc n / 10 in
    let front : leading n tenth ≡ digits_of tenth = same-leading n tenth tenth (omega arith) (omega arith)
    ∙ sym (digits-leading tenth (omega arith)) in
    digits-leading (suc n) (omega arith) ∙ ap (λ (t : List ℕ). t ++ (digit (suc n % 10) ∷ [])) front

pub digits-one : (n : ℕ) → n < 10 → digits_of n ≡ digit n ∷ []
unfolding digits_of leading
digits-one zero h = refl
digits-one (suc n) h =
    let none : suc n / 10 ≡ 0 = omega arith in
    let all : suc n % 10 ≡ suc n = omega arith in
    ap (λ (m : ℕ). leading n m ++ (digit (suc n % 10) ∷ [])) none
    ∙ ap (λ (t : List ℕ). t ++ (digit (suc n % 10) ∷ [])) (same-leading n 0 0 (omega arith) (omega arith))
    ∙ ap (λ (m : ℕ). digit m ∷ []) all

pub digits-two : (n : ℕ) → 10 ≤ n → n < 100 → digits_of n ≡ digit (n / 10) ∷ digit (n % 10) ∷ []
digits-two n h k = digits_last n h ∙ ap (λ (t : List ℕ). t ++ (digit (n % 10) ∷ [])) (digits-one (n / 10) (omega arith))

-- two digits at once, with what stands behind them
pub digits_pair : (n : ℕ) (last : List ℕ) → 100 ≤ n
    → digits_of n ++ last ≡ digits_of (n / 100) ++ (digit (n % 100 / 10) ∷ digit (n % 100 % 10) ∷ last)
digits_pair n last h =
    let front : n / 10 / 10 ≡ n / 100 = omega arith in
    let tens : n / 10 % 10 ≡ n % 100 / 10 = omega arith in
    let ones : n % 10 ≡ n % 100 % 10 = omega arith in
    rw (digits_last n (omega arith), digits_last (n / 10) (omega arith), front, tens, ones) (simp append_assoc)
