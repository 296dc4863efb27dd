-- The decimal text of a whole number with its sign, in ASCII. The paper, "Stored records and the sheet program": so the sheet prints its
-- numbers. Definitions and statements only.
use Rattle.std.specs.Prelude.{ℕ, zero, suc, ◌+◌, ◌-◌, ◌*◌, ◌/◌, ◌%◌, ◌^◌, ◌≤◌, ◌<◌, ◌≡◌, List, [], ◌∷◌, ◌++◌, ℤ, pos, negsuc, nat_abs, length, get_or}
use Rattle.std.specs.Int.{w64}
use Rattle.std.proofs.Common.{SFits}

-- the octet of a digit: '0' is 48
abbrev pub digit : ℕ → ℕ
digit d = 48 + d

-- the digits of n, the highest first: the last one after those of n / 10, and none for 0; n is divided at most `most` times
unfoldable pub leading : ℕ → ℕ → List ℕ
leading zero n = []
leading (suc most) zero = []
leading (suc most) (suc n) = leading most (suc n / 10) ++ (digit (suc n % 10) ∷ [])

-- the digits of n, '0' for 0; any other number has no more digits than it is large
unfoldable pub digits_of : ℕ → List ℕ
digits_of zero = digit 0 ∷ []
digits_of (suc n) = leading (suc n) (suc n)

-- the text of a number: the digits of its size, and in front of a number below 0 '-', which is 45
unfoldable pub decimal : ℤ → List ℕ
decimal (pos n) = digits_of n
decimal (negsuc n) = 45 ∷ digits_of (suc n)

-- the number that a text spells, read on from n: ten times what was read so far, and the next digit
unfoldable pub spelled : ℕ → List ℕ → ℕ
spelled n [] = n
spelled n (x ∷ text) = spelled (n * 10 + (x - 48)) text

-- every element is a digit; past the end `get_or` gives '0', which is one
abbrev pub Digits : List ℕ → Type 0
Digits text = (i : ℕ) → (48 ≤ get_or text i 48) × (get_or text i 48 ≤ 57)

-- what the text of a number without a sign is: digits that spell it, at least one, and the first is '0' only where it is the only one
pub record IsDecimal (text : List ℕ) (n : ℕ) : Type 0 where
  pub some : 1 ≤ length text
  pub digits : Digits text
  pub front : get_or text 0 48 ≡ 48 → length text ≡ 1
  pub value : spelled 0 text ≡ n

-- and with one: '-' is in front of the size of a number below 0, and nothing in front of any other
pub data IsSigned : List ℕ → ℤ → Type 0 where
  plain : {text : List ℕ} {n : ℕ} → IsDecimal text n → IsSigned text (pos n)
  minus : {text : List ℕ} {n : ℕ} → IsDecimal text (suc n) → IsSigned (45 ∷ text) (negsuc n)

-- the text of a number is a text of it (`base_number_text.IsDecimal`, `base_number_text.IsSigned`) and the only one; the number can be
-- read from it; its length is bounded by the number's size, 20 octets for 64 bits; 0, -1 and -2^63 worked
pub record Decimals : Type 0 where
  -- the text is one of its number, and the only one, without a sign and with it
  pub is : (n : ℕ) → IsDecimal (digits_of n) n
  pub only : (text : List ℕ) (n : ℕ) → IsDecimal text n → text ≡ digits_of n
  pub signed_is : (z : ℤ) → IsSigned (decimal z) z
  pub signed_only : (text : List ℕ) (z : ℤ) → IsSigned text z → text ≡ decimal z
  -- the text determines the number
  pub tells : (x y : ℤ) → decimal x ≡ decimal y → x ≡ y
  -- a number below 10 ^ k has at most k digits, and one more octet with the sign; one of 64 bits has at most 20, and none has no octet
  pub most : (n k : ℕ) → n < 10 ^ k → 1 ≤ k → length (digits_of n) ≤ k
  pub most_signed : (z : ℤ) (k : ℕ) → nat_abs z < 10 ^ k → 1 ≤ k → length (decimal z) ≤ k + 1
  pub shortest : (z : ℤ) → 1 ≤ length (decimal z)
  pub longest : (z : ℤ) → SFits w64 z → length (decimal z) ≤ 20
  -- 0, -1 and -9223372036854775808
  pub zero_is : decimal (pos 0) ≡ 48 ∷ []
  pub minus_one : decimal (negsuc 0) ≡ 45 ∷ 49 ∷ []
  pub lowest : decimal (negsuc 9223372036854775807)
      ≡ 45 ∷ 57 ∷ 50 ∷ 50 ∷ 51 ∷ 51 ∷ 55 ∷ 50 ∷ 48 ∷ 51 ∷ 54 ∷ 56 ∷ 53 ∷ 52 ∷ 55 ∷ 55 ∷ 53 ∷ 56 ∷ 48 ∷ 56 ∷ []
