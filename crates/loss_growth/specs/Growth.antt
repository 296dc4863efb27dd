-- Growth of a count that wraps, and one direction's loss over an interval. The paper, rule 7: growth is later minus earlier modulo 2^32; a
-- loss is the growth of what was sent less the growth of what was received. Definitions and statements only.
use Rattle.std.specs.Prelude.{◌≡◌, ℕ, ◌+◌, ◌-◌, ◌%◌, ◌^◌, ◌<◌, ◌≤◌, ℤ, unsigned_abs}
use Rattle.std.proofs.Math.IntN.{sub_ℕ}

-- later less earlier, modulo m
abbrev pub growth : ℕ → ℕ → ℕ → ℕ
growth m earlier later = (later + (m - earlier)) % m

-- sent less received over one interval, each by its growth, sign included
abbrev pub loss_between : ℕ → ℕ → ℕ → ℕ → ℤ
loss_between sent sent-now received received-now = sub_ℕ (growth (2 ^ 32) sent sent-now) (growth (2 ^ 32) received received-now)

-- growth (`loss_growth.growth`) of readings is true growth, for any modulus; a loss is within 4,294,967,295 on either side of 0
pub record Growths : Type 0 where
  -- once for any modulus: of true counts a ≤ b that are less than m apart, the readings modulo m grow by b - a
  pub true_growth : (m a b : ℕ) → 0 < m → a ≤ b → b - a < m → growth m (a % m) (b % m) ≡ b - a
  -- a loss lies between -4,294,967,295 and 4,294,967,295, whatever the readings
  pub bounded : (a b c d : ℕ) → unsigned_abs (loss_between a b c d) ≤ 4294967295
