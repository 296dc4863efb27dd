-- A flag shows what its test means. Assumes nothing.
use mathlib.Core.Path.{◌≡◌, refl}
use mathlib.Core.Bool.{Bool, true, false, false≢true}
use native.Mathlib.Omega.{arith}
use Rattle.state_standing.specs.Flag.{flag, Shows}

pub shows : (b : Bool) {P : Type 0} → (b ≡ true → P) → (P → b ≡ true) → Shows (flag b) P
shows true to from = record { bit = omega arith; one = (λ e. to refl, λ p. refl) }
shows false to from = record { bit = omega arith; one = (λ e. absurd (omega arith), λ p. absurd (false≢true (from p))) }
