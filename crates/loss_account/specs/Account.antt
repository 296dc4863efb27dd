-- The account: what was sent less what was received, in whole numbers without limit. It knows no reading, no wrap and no session.
-- Definitions only.
use Rattle.std.specs.Prelude.{ℕ, ◌-◌, ◌^◌, ◌≤◌, ◌<◌, List, [], ◌∷◌, ℤ, pos, ◌-ℤ◌}

-- the two true counts of one direction, of any size
pub record Truth : Type 0 where
  pub sent : ℕ
  pub received : ℕ

-- from one reading to the next a true count does not fall, nor grow by 2^32 or more
pub record Grows (earlier later : ℕ) : Type 0 where
  pub rises : earlier ≤ later
  pub small : later - earlier < 2 ^ 32

-- it goes on so from reading to reading
abbrev pub GoesOn : Truth → List Truth → Type 0
GoesOn t [] = Unit {0}
GoesOn t (u ∷ us) = Grows t.sent u.sent × Grows t.received u.received × GoesOn u us

abbrev pub Sound : List Truth → Type 0
Sound [] = Unit {0}
Sound (t ∷ ts) = GoesOn t ts

-- sent less received from one time to another, sign included
abbrev pub lost : Truth → Truth → ℤ
lost t u = (pos u.sent -ℤ pos t.sent) -ℤ (pos u.received -ℤ pos t.received)

-- the loss of each interval, from one reading to the next
unfoldable pub losses : Truth → List Truth → List ℤ
losses t [] = []
losses t (u ∷ us) = lost t u ∷ losses u us

-- the last of the true counts
unfoldable pub newest : Truth → List Truth → Truth
newest t [] = t
newest t (u ∷ us) = newest u us

-- the loss since the first reading; nothing read, nothing lost
unfoldable pub total : List Truth → ℤ
total [] = pos 0
total (t ∷ ts) = lost t (newest t ts)
