-- The statement of specs/Signed.antt, and eight octets as two halves. Assumes nothing.
use Prim.Native.Nat.{ℕ, ◌+◌, ◌*◌, ◌%◌, ◌^◌, ◌≤◌, ◌<◌}
use mathlib.Core.Path.{◌≡◌, refl, sym, ap, ◌∙◌}
use mathlib.Core.List.{List, [], ◌∷◌}
use native.Mathlib.Omega.{arith}
use lib.IntN.{ℤ, negsuc}
use lib.ListN.{length, replicate}
use mir.Syntax.{w64}
use Rattle.std.specs.Int.{to_le_bytes}
use mir.Val.{Fits, SFits, to_z, of_z}
use mir.Facts.{to_z-of_z, of_z-to_z, Fits-of_z, Fits-lt-pow}
use Rattle.base_laws.specs.Lists.{part, laid}
use Rattle.base_laws.proofs.Parts.{part-append, length_part}
use Rattle.base_octets.specs.Octets.{Octets}
use Rattle.base_octets.proofs.Octets.{part-octets}
use Rattle.base_numbers.specs.Numbers.{little_endian, number, number_lowest_first, octets_lowest_first, in_octets}
use Rattle.base_numbers.proofs.Laws.{number-below, number-back, put_back, little_append, little_next, read_again}
use Rattle.base_signed.specs.Signed.{SignedNumbers}

pub signed_back : (at : ℕ) (z : ℤ) (s : List ℕ) → at + 8 ≤ length s → SFits w64 z
    → to_z w64 (number little_endian (part at 8 (laid at (in_octets little_endian 8 (of_z w64 z)) s))) ≡ z
signed_back at z s h fits =
    ap (to_z w64) (put_back little_endian 8 at (of_z w64 z) s h (Fits-lt-pow (Fits-of_z fits))) ∙ to_z-of_z fits

-- the same of its eight octets alone
pub signed-octets : (z : ℤ) → SFits w64 z → to_z w64 (number little_endian (in_octets little_endian 8 (of_z w64 z))) ≡ z
signed-octets z fits = ap (to_z w64) (number-back little_endian 8 (of_z w64 z) (Fits-lt-pow (Fits-of_z fits))) ∙ to_z-of_z fits

-- eight octets are two halves of four
pub eight-read : (at : ℕ) (s : List ℕ) → at + 8 ≤ length s
    → number little_endian (part at 4 s) + number little_endian (part (at + 4) 4 s) * 2 ^ 32 ≡ number little_endian (part at 8 s)
eight-read at s h =
    let low = part at 4 s in
    let high = part (at + 4) 4 s in
    let e : length low ≡ 4 = length_part at 4 s (omega arith) in
    let halves : number little_endian (part at 8 s) ≡ number little_endian low + 256 ^ length low * number little_endian high =
    ap (number little_endian) (part-append at 4 4 s) ∙ little_append low high in
    let size : 256 ^ length low ≡ 256 ^ 4 = ap (λ (k : ℕ). 256 ^ k) e in
    sym (halves ∙ rw size (omega arith))

one-octet : (v : ℕ) → in_octets little_endian 1 v ≡ v % 256 ∷ []
unfolding in_octets octets_lowest_first
one-octet v = refl

-- eight octets written at once
pub eight-octets : (v : ℕ) → to_le_bytes w64 v ≡ in_octets little_endian 8 v
eight-octets v = sym (rw (
  little_next 7 v,
  little_next 6 v,
  little_next 5 v,
  little_next 4 v,
  little_next 3 v,
  little_next 2 v,
  little_next 1 v,
  one-octet v,
))

pub signed_again : (at : ℕ) (s : List ℕ) → at + 8 ≤ length s → Octets s
    → in_octets little_endian 8 (of_z w64 (to_z w64 (number little_endian (part at 8 s)))) ≡ part at 8 s
signed_again at s fits h =
    let e : length (part at 8 s) ≡ 8 = length_part at 8 s fits in
    let b : number little_endian (part at 8 s) < 256 ^ 8 = rw e at (number-below little_endian (part at 8 s) (part-octets at 8 s h)) in
    let f : Fits w64 (number little_endian (part at 8 s)) = omega arith in
    rw (of_z-to_z f) (read_again little_endian 8 at s fits h)

minus_one : to_z w64 (number little_endian (replicate 8 255)) ≡ negsuc 0
unfolding number number_lowest_first
minus_one = refl

pub signed-numbers : SignedNumbers
signed-numbers = record {
  signed_back = signed_back;
  signed_again = signed_again;
  minus_one = minus_one;
  lowest_fits = record { sfits = omega arith };
}
