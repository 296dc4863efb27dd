-- Which octets are a call: an unknown number, a body of a wrong length, a side above 1 or a buffer above 1,600 makes a bad one. Definitions
-- and the statement only.
use Rattle.std.specs.Prelude.{ℕ, ◌+◌, ◌-◌, ◌≤◌, ◌≡◌, Bool, true, false, ◌&&◌, not, cond, List, [], ◌∷◌, ◌↔◌, eqb, ltb, leb, length, get_or}
use Rattle.base_laws.specs.Tests.{choose}
use Rattle.replay_calls.specs.RecordedCalls.{row_of, front_number, room_of}

-- ── the table of calls, from number 257 on, as in `replay_calls` ──

-- the fewest and the most octets of the body
abbrev pub fewest : List ℕ
fewest = 81 ∷ 19 ∷ 2 ∷ 0 ∷ 2 ∷ 10 ∷ 194 ∷ 0 ∷ 1 ∷ 37 ∷ 16 ∷ 0 ∷ 83 ∷ 0 ∷ 22 ∷ 0 ∷ []

abbrev pub most : List ℕ
most = 81 ∷ 1998 ∷ 2 ∷ 0 ∷ 2 ∷ 10 ∷ 194 ∷ 0 ∷ 1998 ∷ 37 ∷ 16 ∷ 1998 ∷ 83 ∷ 1998 ∷ 22 ∷ 0 ∷ []

-- ── what is tested ──

-- its number is known, and its body has n octets
unfoldable pub body_good : ℕ → ℕ → Bool
body_good which n = cond (leb 16 (row_of which)) false (leb (get_or fewest (row_of which) 0) n && leb n (get_or most (row_of which) 0))

-- the side of a frame is 0 or 1
unfoldable pub side_good : ℕ → List ℕ → Bool
side_good which call = choose ((not (eqb which 258), true) ∷ (ltb (length call) 3, true) ∷ []) (leb (get_or call 2 0) 1)

-- all of it
unfoldable pub is_call : List ℕ → Bool
is_call call =
    cond (ltb (length call) 2) false (body_good (front_number call) (length call - 2) && side_good (front_number call) call && leb (room_of call) 1600)

-- ── what is meant ──

-- a call without its length
pub record IsCall (call : List ℕ) : Type 0 where
  pub numbered : 2 ≤ length call
  pub known : (257 ≤ front_number call) × (front_number call ≤ 272)
  -- its body is as long as the call's row says
  pub enough : get_or fewest (row_of (front_number call)) 0 + 2 ≤ length call
  pub few : length call ≤ get_or most (row_of (front_number call)) 0 + 2
  -- the side of a frame, and the buffer
  pub side : front_number call ≡ 258 → get_or call 2 0 ≤ 1
  pub room : room_of call ≤ 1600

-- the one test holds exactly where the rules on a call (`replay_good_calls.IsCall`) do
pub record GoodCalls : Type 0 where
  pub good : (call : List ℕ) → (is_call call ≡ true) ↔ IsCall call
