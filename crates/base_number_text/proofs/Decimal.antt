-- Decimal text with its sign, and how long it is: the statement of specs/Decimal.antt. Assumes nothing.
use Prim.Native.Nat.{ℕ, suc, ◌+◌, ◌^◌, ◌≤◌, ◌<◌}
use mathlib.Core.Path.{◌≡◌, refl, sym, ap, ◌∙◌}
use mathlib.Core.List.{List, ◌∷◌}
use native.Mathlib.Omega.{arith}
use lib.IntN.{ℤ, pos, negsuc, nat_abs}
use lib.ListN.{length, get_or, drop}
use mir.Syntax.{w64}
use mir.Val.{SFits}
use Rattle.base_number_text.specs.Decimal.{leading, digits_of, decimal, spelled, IsSigned, plain, minus, Decimals}
use Rattle.base_number_text.proofs.Digits.{is, counted-least, counted-text, only}

-- ── with the sign ──

signed_is : (z : ℤ) → IsSigned (decimal z) z
unfolding decimal
signed_is (pos n) = plain (is n)
signed_is (negsuc n) = minus (is (suc n))

signed_only : (text : List ℕ) (z : ℤ) → IsSigned text z → text ≡ decimal z
unfolding decimal
signed_only text (pos n) (plain t) = only text n t
signed_only _ (negsuc n) (minus {text} t) = ap (λ (t : List ℕ). 45 ∷ t) (only text (suc n) t)

same : (n m : ℕ) → digits_of n ≡ digits_of m → n ≡ m
same n m e = sym (is n).value ∙ ap (spelled 0) e ∙ (is m).value

tells : (x y : ℤ) → decimal x ≡ decimal y → x ≡ y
unfolding decimal
tells (pos n) (pos m) e = ap pos (same n m e)
tells (pos n) (negsuc m) e = absurd (omega (arith, (is n).digits 0, ap (λ (t : List ℕ). get_or t 0 48) e))
tells (negsuc n) (pos m) e = absurd (omega (arith, (is m).digits 0, ap (λ (t : List ℕ). get_or t 0 48) e))
tells (negsuc n) (negsuc m) e = ap negsuc (omega (arith, same (suc n) (suc m) (ap (drop 1) e)))

-- ── how long it is ──

pub most : (n k : ℕ) → n < 10 ^ k → 1 ≤ k → length (digits_of n) ≤ k
most n k h s = counted-least (counted-text (digits_of n) n (is n)) k s h

shortest : (z : ℤ) → 1 ≤ length (decimal z)
unfolding decimal
shortest (pos n) = (is n).some
shortest (negsuc n) = omega arith

most_signed : (z : ℤ) (k : ℕ) → nat_abs z < 10 ^ k → 1 ≤ k → length (decimal z) ≤ k + 1
unfolding decimal
most_signed (pos n) k h s = omega (arith, most n k h s)
most_signed (negsuc n) k h s = omega (arith, most (suc n) k h s)

pub size_small : (z : ℤ) → SFits w64 z → nat_abs z < 10 ^ 19
size_small (pos n) f = omega (arith, f.sfits)
size_small (negsuc n) f = omega (arith, f.sfits)

longest : (z : ℤ) → SFits w64 z → length (decimal z) ≤ 20
longest z f = most_signed z 19 (size_small z f) (omega arith)

pub decimals : Decimals
unfolding decimal digits_of leading
decimals = record {
  is = is;
  only = only;
  signed_is = signed_is;
  signed_only = signed_only;
  tells = tells;
  most = most;
  most_signed = most_signed;
  shortest = shortest;
  longest = longest;
  zero_is = refl;
  minus_one = refl;
  lowest = refl;
}
