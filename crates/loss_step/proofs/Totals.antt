-- That a total carried on stays in 64 bits. Assumes nothing.
use Prim.Native.Nat.{ℕ, ◌*◌, ◌<◌, ◌≤◌}
use native.Mathlib.Omega.{arith}
use lib.IntN.{ℤ, nat_abs, ◌+ℤ◌}
use mir.Syntax.{w64}
use mir.Val.{SFits, to_z, of_z}
use Rattle.base_laws.proofs.Signed.{add-size}
use Rattle.base_laws.proofs.Stored.{back, fits-size}
use Rattle.loss_session.specs.Session.{most_intervals}

-- a total within its bound, and one more loss
pub plus_fits : (x y : ℤ) (n : ℕ) → SFits w64 x → SFits w64 y → n < most_intervals → nat_abs x ≤ n * 4294967295 → nat_abs y ≤ 4294967295
    → SFits w64 (to_z w64 (of_z w64 x) +ℤ to_z w64 (of_z w64 y))
plus_fits x y n fx fy few hx hy = rw (back x fx, back y fy) (fits-size (x +ℤ y) (omega (arith, add-size x y)))
