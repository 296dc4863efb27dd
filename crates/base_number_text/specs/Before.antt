-- The text of a number so that it ends before a place of a buffer. Definitions and the statement only.
use Rattle.std.specs.Prelude.{ℕ, ◌-◌, ◌≤◌, ◌<◌, ◌≡◌, Bool, cond, ◌&&◌, List, ◌∷◌, ◌++◌, ◌⊎◌, leb, ℤ, nat_abs, length, drop}
use Rattle.std.specs.Int.{w64}
use Rattle.std.proofs.Common.{SFits}
use Rattle.base_laws.specs.Lists.{laid}
use Rattle.base_number_text.specs.Decimal.{digits_of, decimal}

-- no number of 64 bits has a longer text: nineteen digits and a sign
abbrev pub longest_number : ℕ
longest_number = 20

-- the place is one of the buffer, with room before it for any number
abbrev pub room_before : ℕ → List ℕ → Bool
room_before end s = leb longest_number end && leb end (length s)

-- the buffer after it: the digits of the size end before the place, and '-' is in front of them whether or not the number is below 0.
-- Where the text begins says whether it belongs to the text
unfoldable pub put_before : ℕ → ℤ → List ℕ → List ℕ
put_before end z s =
    cond (room_before end s) (laid (end - length (digits_of (nat_abs z)) - 1) (45 ∷ digits_of (nat_abs z)) s) s

-- where the text begins, or the place itself where there is no room
unfoldable pub beginning : ℕ → ℤ → List ℕ → ℕ
beginning end z s = cond (room_before end s) (end - length (decimal z)) end

-- what is said of a number that is put so
pub record PutsBefore : Type 0 where
  -- where there is room, the text is from where it begins up to the place, and what is from the place on is as it was
  pub text : (end : ℕ) (z : ℤ) (s : List ℕ) → SFits w64 z → longest_number ≤ end → end ≤ length s
      → drop (beginning end z s) (put_before end z s) ≡ decimal z ++ drop end s
  pub begins : (end : ℕ) (z : ℤ) (s : List ℕ) → longest_number ≤ end → end ≤ length s → beginning end z s ≡ end - length (decimal z)
  -- where there is none, nothing changes, and the place itself is returned
  pub untouched : (end : ℕ) (z : ℤ) (s : List ℕ) → (end < longest_number) ⊎ (length s < end)
      → (put_before end z s ≡ s) × (beginning end z s ≡ end)
  -- the buffer is as long as it was
  pub long : (end : ℕ) (z : ℤ) (s : List ℕ) → SFits w64 z → length (put_before end z s) ≡ length s
