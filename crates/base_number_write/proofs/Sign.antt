-- How many octets the sign of a number takes, as the code tells it. Assumes nothing.
use Prim.Native.Nat.{◌+◌}
use mathlib.Core.Path.{◌≡◌}
use mathlib.Core.Bool.{true, false, true≢false}
use native.Mathlib.Omega.{arith}
use lib.IntN.{ℤ, pos, negsuc, nat_abs}
use lib.ListN.{length}
use lib.Signed.{lt_z}
use borrow.Author.Tests.{ltb-true}
use mir.Syntax.{w64}
use mir.Val.{SFits, to_z, of_z}
use Rattle.base_laws.proofs.Stored.{back}
use Rattle.base_number_text.specs.Decimal.{digits_of, decimal}

below : (z : ℤ) → lt_z z (pos 0) ≡ true → 1 + length (digits_of (nat_abs z)) ≡ length (decimal z)
unfolding decimal
below (pos n) e = absurd (omega (arith, ltb-true n 0 e))
below (negsuc n) e = omega arith

above : (z : ℤ) → lt_z z (pos 0) ≡ false → 0 + length (digits_of (nat_abs z)) ≡ length (decimal z)
unfolding decimal
above (pos n) e = omega arith
above (negsuc n) e = absurd (true≢false e)

module _ (z : ℤ) (f : SFits w64 z) where
  pub sign_below : lt_z (to_z w64 (of_z w64 z)) (pos 0) ≡ true → 1 + length (digits_of (nat_abs z)) ≡ length (decimal z)
  sign_below n = below z (rw (back z f) at n)

  pub sign_above : lt_z (to_z w64 (of_z w64 z)) (pos 0) ≡ false → 0 + length (digits_of (nat_abs z)) ≡ length (decimal z)
  sign_above n = above z (rw (back z f) at n)
