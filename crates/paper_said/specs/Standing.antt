-- What is active in a state, and what conditions show of it. The paper, "A tick". Conditions only.
use Rattle.std.specs.Prelude.{ℕ, ◌<◌, ◌≡◌, length, get_or}
use Rattle.state_settings.specs.Settings.{slots}
use Rattle.state_view.specs.State.{State}
use Rattle.paper_said.specs.Calls.{Raised}

-- a number is 1 where something is active and 0 where it does not
pub data Flag (P : Type 0) : ℕ → Type 0 where
  on : P → Flag P 1
  off : (P → ⊥) → Flag P 0

-- loss of continuity: a peer's timer has run out
pub record Lost (s : State) (k : ℕ) : Type 0 where
  pub used : k < s.settings.count
  pub ended : get_or s.timers k 0 ≡ 0

-- any condition but a peer's RDI: a peer is lost, or the timer of one of the six others runs
pub data Stands (s : State) : Type 0 where
  lost : (k : ℕ) → k < length s.timers → Lost s k → Stands s
  mismerge : 0 < s.mismerge → Stands s
  unexpected_mep : 0 < s.unexpected_mep → Stands s
  unexpected_period : 0 < s.unexpected_period → Stands s
  unexpected_level : 0 < s.unexpected_level → Stands s
  ais : 0 < s.ais → Stands s
  lck : 0 < s.lck → Stands s

-- what conditions show
pub record Shows (s : State) (r : Raised) : Type 0 where
  pub lost : (k : ℕ) → k < slots → Flag (Lost s k) (get_or r.lost k 0)
  pub slots_lost : length r.lost ≡ slots
  pub rdi : r.rdi ≡ s.rdi
  pub mismerge : Flag (0 < s.mismerge) r.mismerge
  pub unexpected_mep : Flag (0 < s.unexpected_mep) r.unexpected_mep
  pub unexpected_period : Flag (0 < s.unexpected_period) r.unexpected_period
  pub unexpected_level : Flag (0 < s.unexpected_level) r.unexpected_level
  pub ais : Flag (0 < s.ais) r.ais
  pub lck : Flag (0 < s.lck) r.lck
