-- A text put at a place of a buffer where it fits, and left out where it does not. Definitions and statements only.
use Rattle.std.specs.Prelude.{ℕ, ◌+◌, ◌≤◌, ◌<◌, ◌≡◌, Bool, cond, List, ◌++◌, ◌⊎◌, leb, length, get_or}
use Rattle.base_laws.specs.Lists.{part, laid}

-- the text has room in the buffer from place `at` on
abbrev pub fits : ℕ → List ℕ → List ℕ → Bool
fits at text s = leb (at + length text) (length s)

-- the buffer after it: all of the text is laid there, or nothing changes
unfoldable pub put_at : ℕ → List ℕ → List ℕ → List ℕ
put_at at text s = cond (fits at text s) (laid at text s) s

-- the place behind the text, or where it would have begun
unfoldable pub behind : ℕ → List ℕ → List ℕ → ℕ
behind at text s = cond (fits at text s) (at + length text) at

-- a text that fits is laid and reads back, one that does not fit leaves all as it was; the length and all other octets stay; two texts
-- put one after the other are one
pub record Puts : Type 0 where
  -- where it fits it is laid, and reads back there; the place returned is right behind it
  pub laid_there : (at : ℕ) (text s : List ℕ) → at + length text ≤ length s → put_at at text s ≡ laid at text s
  pub back : (at : ℕ) (text s : List ℕ) → at + length text ≤ length s → part at (length text) (put_at at text s) ≡ text
  pub place : (at : ℕ) (text s : List ℕ) → at + length text ≤ length s → behind at text s ≡ at + length text
  -- where it does not, nothing changes, and the place returned is where it would have begun
  pub untouched : (at : ℕ) (text s : List ℕ) → length s < at + length text → put_at at text s ≡ s
  pub stays : (at : ℕ) (text s : List ℕ) → length s < at + length text → behind at text s ≡ at
  -- the buffer is as long as it was, and every octet before and behind the text is as it was, whether it fits or not
  pub long : (at : ℕ) (text s : List ℕ) → length (put_at at text s) ≡ length s
  pub others : (at : ℕ) (text s : List ℕ) (i : ℕ) → (i < at) ⊎ (at + length text ≤ i) → get_or (put_at at text s) i 0 ≡ get_or s i 0
  -- two texts that fit, put one after the other, are one
  pub joined : (at : ℕ) (text more s : List ℕ) → at + length (text ++ more) ≤ length s
      → put_at (behind at text s) more (put_at at text s) ≡ put_at at (text ++ more) s
  pub joined_place : (at : ℕ) (text more s : List ℕ) → at + length (text ++ more) ≤ length s
      → behind (behind at text s) more (put_at at text s) ≡ behind at (text ++ more) s
