-- The multicast address. The paper, rule 4: 01-80-C2-00-00-3x, x being the frame's level; a CCM is sent to our level's. Definitions and the
-- statement only.
use Rattle.std.specs.Prelude.{ℕ, ◌+◌, ◌%◌, ◌<◌, ◌≡◌, List, [], ◌∷◌, ◌++◌, length}

-- 01-80-C2-00-00
abbrev pub prefix : List ℕ
prefix = 0x01 ∷ 0x80 ∷ 0xc2 ∷ 0x00 ∷ 0x00 ∷ []

-- 3x; what is more than three bits of a level is left out
abbrev pub last_of : ℕ → ℕ
last_of level = 0x30 + level % 8

abbrev pub multicast_of : ℕ → List ℕ
multicast_of level = prefix ++ (last_of level ∷ [])

-- an address has six octets, and each level its own
pub record Multicasts : Type 0 where
  pub long : (level : ℕ) → length (multicast_of level) ≡ 6
  -- each level has its own
  pub apart : (a b : ℕ) → a < 8 → b < 8 → multicast_of a ≡ multicast_of b → a ≡ b
