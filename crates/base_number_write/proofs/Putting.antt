-- The text of a number from its digits and its sign, and copied from where it was made. Assumes nothing.
use Prim.Native.Nat.{ℕ, ◌+◌, ◌-◌, ◌≤◌, ◌<◌}
use mathlib.Core.Path.{◌≡◌, refl, sym, ap, ap₂, ◌∙◌}
use mathlib.Core.List.{List, [], ◌∷◌, ◌++◌, append-nil}
use native.Mathlib.Omega.{arith}
use lib.IntN.{ℤ, nat_abs}
use lib.ListN.{length, take, drop, length-drop}
use lib.Seq.{take_all}
use mir.Syntax.{w64}
use mir.Val.{SFits}
use Rattle.base_laws.specs.Lists.{laid}
use Rattle.base_number_text.specs.Decimal.{digits_of, decimal}
use Rattle.base_number_text.specs.Put.{put_at, behind}
use Rattle.base_number_text.specs.Before.{put_before, beginning}
use Rattle.base_number_text.proofs.Decimal.{decimals}
use Rattle.base_number_text.proofs.Put.{put_all, put-nothing}
use Rattle.base_number_text.proofs.Before.{before-laid, before-begins, puts_before}

-- digits and '-' put before a place, and the sign's octets told
module _ (end : ℕ) (z : ℤ) (s : List ℕ) (fits : SFits w64 z) (low : 20 ≤ end) (high : end ≤ length s) {given : ℤ} (same : given ≡ z)
    {size : ℕ} (digits sign : ℕ) {after : List ℕ} (of_size : size ≡ nat_abs given)
    (signed : sign + length (digits_of (nat_abs given)) ≡ length (decimal given))
    (put : (digits + length (digits_of size) ≡ end) × (1 ≤ digits) × (after ≡ laid (digits - 1) (45 ∷ digits_of size) s)) where
  size_is : size ≡ nat_abs z
  size_is = of_size ∙ ap nat_abs same

  signed_is : sign + length (digits_of (nat_abs z)) ≡ length (decimal z)
  signed_is = rw same at signed

  pub sign_within : sign ≤ digits
  sign_within = omega (arith, put.0, signed_is, ap (λ (n : ℕ). length (digits_of n)) size_is, decimals.longest z fits)

  pub put_so : (after ≡ put_before end z s) × (digits - sign ≡ beginning end z s)
  put_so =
      let place : digits - 1 ≡ end - length (digits_of size) - 1 = omega (arith, put.0) in (
        put.2 ∙ ap (λ (m : ℕ). laid m (45 ∷ digits_of size) s) place
            ∙ ap (λ (n : ℕ). laid (end - length (digits_of n) - 1) (45 ∷ digits_of n) s) size_is ∙ sym (before-laid end z s low high),
        rw (before-begins end z s low high) (omega (arith, put.0, signed_is, ap (λ (n : ℕ). length (digits_of n)) size_is)),
      )

-- a number put before the end of twenty octets, and copied from there
module _ (z : ℤ) (fits : SFits w64 z) {given : ℤ} (same : given ≡ z) (zeros : List ℕ) (twenty : length zeros ≡ 20) {text : List ℕ}
    {begin : ℕ} (put : (text ≡ put_before 20 given zeros) × (begin ≡ beginning 20 given zeros)) where
  made : (text ≡ put_before 20 z zeros) × (begin ≡ beginning 20 z zeros)
  made = rw same at put

  high : 20 ≤ length zeros
  high = omega arith

  pub made_begins : begin + length (decimal z) ≡ 20
  made_begins = omega (arith, made.1 ∙ before-begins 20 z zeros (omega arith) high, decimals.longest z fits)

  made_text : drop begin text ≡ decimal z
  made_text =
      ap₂ (λ (k : ℕ) (l : List ℕ). drop k l) made.1 made.0
      ∙ puts_before.text 20 z zeros fits (omega arith) high
      ∙ ap (λ (l : List ℕ). decimal z ++ l) (none (drop 20 zeros) (omega (arith, length-drop 20 zeros)))
      ∙ append-nil (decimal z)
    where
      none : (l : List ℕ) → length l ≡ 0 → l ≡ []
      none [] e = refl
      none (x ∷ l) e = absurd (omega arith)

  module _ (at : ℕ) (s : List ℕ) where
    pub made_nothing : length s < at + (20 - begin) → (s ≡ put_at at (decimal z) s) × (at ≡ behind at (decimal z) s)
    made_nothing h = put-nothing at (decimal z) s (omega (arith, made_begins))

    pub made_copied : (after : List ℕ) → at + (20 - begin) ≤ length s → after ≡ laid at (take (20 - begin) (drop begin text)) s
        → (after ≡ put_at at (decimal z) s) × (at + (20 - begin) ≡ behind at (decimal z) s)
    made_copied after h e =
        let all = take_all (20 - begin) (drop begin text) (omega (arith, made_begins, ap length made_text)) in
        put_all at (decimal z) s after (20 - begin) h (omega (arith, made_begins)) (e ∙ ap (λ (l : List ℕ). laid at l s) (all ∙ made_text))
