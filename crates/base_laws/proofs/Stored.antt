-- A signed number that 64 bits hold, and its bits: what a signed local of the code tells. Assumes nothing.
use Prim.Native.Nat.{ℕ, ◌-◌, ◌<◌, ◌^◌}
use mathlib.Core.Path.{◌≡◌, ap₂, ◌∙◌}
use native.Mathlib.Omega.{arith}
use lib.IntN.{ℤ, pos, negsuc, sub_ℕ, nat_abs, ◌-ℤ◌}
use lib.Signed.{mag}
use mir.Syntax.{w64}
use mir.Val.{SFits, to_z, of_z}
use mir.Facts.{to_z_pos, to_z-of_z}
use Rattle.base_laws.proofs.Signed.{pos_less, sub-size}

mag_size : (z : ℤ) {n : ℕ} → nat_abs z < n → mag z < n
mag_size (pos m) h = h
mag_size (negsuc m) h = omega arith

-- a number of small size fits
pub fits-size : (z : ℤ) → nat_abs z < 2 ^ 63 → SFits w64 z
fits-size z h = record { sfits = mag_size z h }

-- the difference of two numbers that were widened
pub widened_less : (a b : ℕ) → a < 2 ^ 63 → b < 2 ^ 63 → to_z w64 a -ℤ to_z w64 b ≡ sub_ℕ a b
widened_less a b ha hb = ap₂ (λ (x y : ℤ). x -ℤ y) (to_z_pos w64 ha) (to_z_pos w64 hb) ∙ pos_less a b

pub widened_less-fits : (a b : ℕ) → a < 2 ^ 63 → b < 2 ^ 63 → SFits w64 (to_z w64 a -ℤ to_z w64 b)
widened_less-fits a b ha hb =
    rw (widened_less a b ha hb) (fits-size (sub_ℕ a b) (omega (arith, sub-size a b (2 ^ 63 - 1) (omega arith) (omega arith))))

-- the number comes back from its bits
pub back : (x : ℤ) → SFits w64 x → to_z w64 (of_z w64 x) ≡ x
back x fits = to_z-of_z fits
