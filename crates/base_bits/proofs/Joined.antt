-- Two fields put together by shift and mask, once for any widths; and that what is masked fits, whatever the mask. Assumes nothing.
use Prim.Native.Nat.{ℕ, ◌+◌, ◌*◌, ◌%◌, ◌^◌, ◌-◌, ◌≤◌, ◌<◌}
use mathlib.Core.Path.{◌≡◌}
use native.Mathlib.Omega.{arith}
use native.Mathlib.Nat.{mod-eq_of_lt, mul-le-mul_right}
use lib.Bits.{bit_and, bit_or, and_mask, and_le_l, and_le_r, or_lt, or_shifted}
use lib.Dec.{T, ltb, lit<}
use mir.Syntax.{w8, w32}
use mir.Val.{Fits}

-- the low j bits of a, shifted up by k within w bits, and the low m bits of b below them
pub joined : (w a j k b m : ℕ) → a % 2 ^ j * 2 ^ k < 2 ^ w → b % 2 ^ m < 2 ^ k
    → bit_or (bit_and a (2 ^ j - 1) * 2 ^ k % 2 ^ w) (bit_and b (2 ^ m - 1)) ≡ a % 2 ^ j * 2 ^ k + b % 2 ^ m
joined w a j k b m fits low =
    rw (and_mask a j, and_mask b m, mod-eq_of_lt fits) (or_shifted (a % 2 ^ j) k (b % 2 ^ m) low)

-- two masked numbers, the first times s, are an octet where no mask lets more through
pub joined-fits : (a m s b n : ℕ) → T (ltb (m * s) 256) → T (ltb n 256) → Fits w8 (bit_or (bit_and a m * s % 2 ^ 32) (bit_and b n))
joined-fits a m s b n h k =
    let high : bit_and a m * s ≤ m * s = mul-le-mul_right s (and_le_r a m) in
    let most : m * s < 256 = lit< h in
    let rest : n < 256 = lit< k in
    record { fits = or_lt 8 (bit_and a m * s % 2 ^ 32) (bit_and b n) (omega arith) (omega (arith, and_le_r b n)) }
