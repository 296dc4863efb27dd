-- Whether any condition is active. The paper, "A tick": loss of continuity stands exactly while a peer's timer is 0, every other
-- condition while its timer is above 0. A peer's RDI is none of them: it is reported, and sets no RDI of ours. Definitions and the
-- statement only.
use Rattle.std.specs.Prelude.{ℕ, ◌<◌, ◌≡◌, List, Bool, true, ◌||◌, not, ◌↔◌, ltb, length, get_or, take}
use Rattle.base_laws.specs.Lists.{absent}
use Rattle.state_view.specs.State.{State}

-- ── what is meant ──

pub data Stands (s : State) : Type 0 where
  -- a peer's: its slot is used (there is such a slot), and its timer has run out
  lost : (i : ℕ) → i < s.settings.count → i < length s.timers → get_or s.timers i 0 ≡ 0 → Stands s
  mismerge : 0 < s.mismerge → Stands s
  unexpected_level : 0 < s.unexpected_level → Stands s
  unexpected_mep : 0 < s.unexpected_mep → Stands s
  unexpected_period : 0 < s.unexpected_period → Stands s
  ais : 0 < s.ais → Stands s
  lck : 0 < s.lck → Stands s

-- ── what is tested ──

-- the timers of the used slots, which come first
abbrev pub used_timers : State → List ℕ
used_timers s = take s.settings.count s.timers

-- a timer that has not run out
abbrev pub runs : ℕ → Bool
runs timer = ltb 0 timer

unfoldable pub standing : State → Bool
standing s =
    not (absent 0 (used_timers s))
    || runs s.mismerge
    || runs s.unexpected_level
    || runs s.unexpected_mep
    || runs s.unexpected_period
    || runs s.ais
    || runs s.lck

-- the one test holds exactly where a condition is active, one line a condition (`state_standing.Stands`)
pub record StandingIs : Type 0 where
  pub standing_is : (s : State) → (standing s ≡ true) ↔ Stands s
