-- Recorded calls, framed as stored records are: little-endian, a two-octet length of all that follows it, from 2 to 2,000, a two-octet call
-- number, the body. Any other length is a bad call's; `replay_good_calls` says which other calls are bad. Definitions and the
-- statement only.
use Rattle.std.specs.Prelude.{ℕ, ◌-◌, ◌≤◌, ◌<◌, ◌≡◌, Bool, true, cond, List, [], ◌∷◌, ◌↔◌, ◌⊎◌, eqb, ltb, leb, length, get_or}
use Rattle.base_laws.specs.Tests.{choose}
use Rattle.base_laws.specs.Lists.{part}
use Rattle.base_numbers.specs.Numbers.{little_endian, number}

-- ── the table of calls, from number 257 on: new setting, frame, tick, clear, send LMM, send DMM, put and show a state, ask for a
-- TLV, put and measure on the lent session, read and write a settings record, read and write a loss line, conditions ──

-- where behind the call's length the buffer's is, in two octets; 0 for a call that passes in none
abbrev pub places : List ℕ
places = 0 ∷ 3 ∷ 2 ∷ 0 ∷ 2 ∷ 2 ∷ 0 ∷ 0 ∷ 0 ∷ 0 ∷ 0 ∷ 0 ∷ 2 ∷ 0 ∷ 2 ∷ 0 ∷ []

-- the row of a number; 16, which has none, for one that is no call's
unfoldable pub row_of : ℕ → ℕ
row_of n = cond (ltb n 257) 16 (cond (ltb 272 n) 16 (n - 257))

unfoldable pub place_of : ℕ → ℕ
place_of n = cond (leb 16 (row_of n)) 0 (get_or places (row_of n) 0)

-- ── what is tested ──

-- the number in a call's first two octets: without its length that is the call's number
abbrev pub front_number : List ℕ → ℕ
front_number octets = number little_endian (part 0 2 octets)

-- the length that they give, 0 where no call is so long
unfoldable pub call_length : List ℕ → ℕ
call_length head = choose ((ltb (front_number head) 2, 0) ∷ (ltb 2000 (front_number head), 0) ∷ []) (front_number head)

-- a call of this number passes in a part of the buffer
unfoldable pub hands_over : ℕ → Bool
hands_over n = ltb 0 (place_of n)

-- the length of that part; 0 where there is none
unfoldable pub room_at : ℕ → List ℕ → ℕ
room_at place call = choose ((eqb place 0, 0) ∷ (ltb (length call - 2) place, 0) ∷ []) (number little_endian (part place 2 call))

unfoldable pub room_of : List ℕ → ℕ
room_of call = cond (ltb (length call) 2) 0 (room_at (place_of (front_number call)) call)

-- which lengths a call can have; the six calls that pass in a buffer
pub record Calls : Type 0 where
  -- a length from 2 to 2,000 is given as it is, and no other
  pub told : (head : List ℕ) → 2 ≤ front_number head → front_number head ≤ 2000 → call_length head ≡ front_number head
  pub bad : (head : List ℕ) → (call_length head ≡ 0) ↔ ((front_number head < 2) ⊎ (2000 < front_number head))
  -- the six calls that pass in a part of the buffer, and no other does
  pub six : (n : ℕ) → (hands_over n ≡ true) ↔ ((n ≡ 258) ⊎ (n ≡ 259) ⊎ (n ≡ 261) ⊎ (n ≡ 262) ⊎ (n ≡ 269) ⊎ (n ≡ 271))
  -- the length of a frame's part is behind its side, that of any other right behind the number
  pub frame_room : place_of 258 ≡ 3
