-- The statements of specs/Growth.antt. Assumes nothing.
use Rattle.std.proofs.Common.{◌≡◌, ℕ, ◌+◌, ◌-◌, ◌*◌, ◌/◌, ◌%◌, ◌^◌, ◌<◌, ◌≤◌, nat_abs, ap, ◌∙◌, mod-lt, mod-eq_of_lt, arith}
use native.Mathlib.Nat.{mod-add-mod, mod-add-div', add-mul-mod_self_right}
use Rattle.base_laws.proofs.Signed.{sub-size}
use Rattle.loss_growth.specs.Growth.{growth, loss_between, Growths}

-- what is added to b is b's growth and whole turns of the modulus
pub true_growth : (m a b : ℕ) → 0 < m → a ≤ b → b - a < m → growth m (a % m) (b % m) ≡ b - a
true_growth m a b pos le small =
    mod-add-mod b m (m - a % m) ∙ ap (λ (n : ℕ). n % m) turns ∙ add-mul-mod_self_right (b - a) (a / m + 1) m ∙ mod-eq_of_lt small
  where
    turns : b + (m - a % m) ≡ (b - a) + (a / m + 1) * m
    turns = omega (arith, mod-lt a pos, mod-add-div' a m)

pub loss-size : (a b c d : ℕ) → nat_abs (loss_between a b c d) ≤ 4294967295
loss-size a b c d = sub-size (growth (2 ^ 32) a b) (growth (2 ^ 32) c d) 4294967295 (omega arith) (omega arith)

pub growths : Growths
growths = record { true_growth = true_growth; bounded = λ a b c d. omega (arith, loss-size a b c d) }
