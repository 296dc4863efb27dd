-- A signed number of 64 bits in eight octets, two's complement. The paper, "Stored records": little-endian. The statement only.
use Rattle.std.specs.Prelude.{ℕ, ◌+◌, ◌≤◌, ◌≡◌, List, ℤ, negsuc, length, replicate}
use Rattle.std.specs.Int.{w64}
use Rattle.std.proofs.Common.{SFits, to_z, of_z}
use Rattle.base_laws.specs.Lists.{part, laid}
use Rattle.base_octets.specs.Octets.{Octets}
use Rattle.base_numbers.specs.Numbers.{little_endian, number, in_octets}

-- signed numbers in eight octets come back, -2^63 included
pub record SignedNumbers : Type 0 where
  -- a signed number of 64 bits, -2 ^ 63 included, comes back from the eight octets it is put into
  pub signed_back : (at : ℕ) (z : ℤ) (s : List ℕ) → at + 8 ≤ length s → SFits w64 z
      → to_z w64 (number little_endian (part at 8 (laid at (in_octets little_endian 8 (of_z w64 z)) s))) ≡ z
  pub signed_again : (at : ℕ) (s : List ℕ) → at + 8 ≤ length s → Octets s
      → in_octets little_endian 8 (of_z w64 (to_z w64 (number little_endian (part at 8 s)))) ≡ part at 8 s
  -- eight octets of all ones are -1, as in the paper's worked record
  pub minus_one : to_z w64 (number little_endian (replicate 8 255)) ≡ negsuc 0
  pub lowest_fits : SFits w64 (negsuc 9223372036854775807)
