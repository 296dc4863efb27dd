-- Octets in lower-case hex, in ASCII: two digits each, nothing between them, and `-` for no octets. So recorded runs print octets.
-- Definitions and the statement only.
use Rattle.std.specs.Prelude.{ℕ, ◌+◌, ◌-◌, ◌*◌, ◌/◌, ◌%◌, ◌<◌, ◌≡◌, cond, List, [], ◌∷◌, ◌++◌, ltb, length}
use Rattle.base_octets.specs.Octets.{Octets}

-- the digit of a number below 16: '0' is 48, and 'a' is 97 and stands for 10
unfoldable pub hex_digit : ℕ → ℕ
hex_digit d = cond (ltb d 10) (48 + d) (87 + d)

-- an octet in two digits, the high one first
unfoldable pub hex_pair : ℕ → List ℕ
hex_pair x = hex_digit (x / 16) ∷ hex_digit (x % 16) ∷ []

-- octets one after another
unfoldable pub hex_pairs : List ℕ → List ℕ
hex_pairs [] = []
hex_pairs (x ∷ xs) = hex_pair x ++ hex_pairs xs

-- the text of octets: '-', which is 45, for none
unfoldable pub hex_text : List ℕ → List ℕ
hex_text [] = 45 ∷ []
hex_text (x ∷ xs) = hex_pairs (x ∷ xs)

-- the number that a digit stands for, and the octets that pairs of digits do
unfoldable pub digit_value : ℕ → ℕ
digit_value c = cond (ltb c 58) (c - 48) (c - 87)

unfoldable pub pairs_value : List ℕ → List ℕ
pairs_value [] = []
pairs_value (c ∷ []) = []
pairs_value (c ∷ d ∷ text) = (digit_value c * 16 + digit_value d) ∷ pairs_value text

-- two digits an octet; the octets come back from their digits; a dash for none; four octets worked
pub record Hexes : Type 0 where
  -- two digits an octet
  pub long : (xs : List ℕ) → length (hex_pairs xs) ≡ 2 * length xs
  -- the octets come back from their digits, and so the text determines them
  pub back : (xs : List ℕ) → Octets xs → pairs_value (hex_pairs xs) ≡ xs
  -- `-` for none, and what some are
  pub none : hex_text [] ≡ 45 ∷ []
  pub worked : hex_text (0 ∷ 9 ∷ 165 ∷ 255 ∷ []) ≡ 48 ∷ 48 ∷ 48 ∷ 57 ∷ 97 ∷ 53 ∷ 102 ∷ 102 ∷ []
