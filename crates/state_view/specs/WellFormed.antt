-- When a state is well formed. The paper, "Refusals": settings valid; no timer above its hold time, AIS and LCK 126,000; ticks to the next
-- CCM from 1 to the period; unused peer slots without timer or RDI; and the session's rules. Definitions and the statement only.
use Rattle.std.specs.Prelude.{ℕ, ◌≤◌, ◌<◌, ◌≡◌, List, Bool, true, ◌&&◌, ◌↔◌, leb, get_or, drop}
use Rattle.base_laws.specs.Lists.{every}
use Rattle.base_words.specs.Words.{within}
use Rattle.base_period.specs.Periods.{ticks_of, hold_of}
use Rattle.state_settings.specs.Valid.{Valid, valid}
use Rattle.loss_session.specs.Session as Session
use Rattle.state_view.specs.State.{State}

-- ── what is meant ──

-- the longest that a timer of ours runs, and one of an AIS or LCK
abbrev pub own_most : State → ℕ
own_most s = hold_of s.settings.period

abbrev pub alarm_most : ℕ
alarm_most = 126000

pub record WellFormed (s : State) : Type 0 where
  pub settings : Valid s.settings
  -- no timer above its hold time
  pub timers : (i : ℕ) → get_or s.timers i 0 ≤ own_most s
  pub mismerge : s.mismerge ≤ own_most s
  pub unexpected_level : s.unexpected_level ≤ own_most s
  pub unexpected_mep : s.unexpected_mep ≤ own_most s
  pub unexpected_period : s.unexpected_period ≤ own_most s
  pub ais : s.ais ≤ alarm_most
  pub lck : s.lck ≤ alarm_most
  -- from 1 to the period
  pub some_tick : 1 ≤ s.next
  pub next : s.next ≤ ticks_of s.settings.period
  -- an RDI is on or off; an unused slot has neither timer nor RDI
  pub rdi : (i : ℕ) → get_or s.rdi i 0 ≤ 1
  pub no_timer : (i : ℕ) → s.settings.count ≤ i → get_or s.timers i 0 ≡ 0
  pub no_rdi : (i : ℕ) → s.settings.count ≤ i → get_or s.rdi i 0 ≡ 0
  pub session : Session.WellFormed s.session

-- ── what is tested ──

abbrev pub timers_good : State → ℕ → Bool
timers_good s hold =
    leb s.mismerge hold
    && leb s.unexpected_level hold
    && leb s.unexpected_mep hold
    && leb s.unexpected_period hold
    && leb s.ais alarm_most
    && leb s.lck alarm_most

abbrev pub next_good : ℕ → ℕ → Bool
next_good next ticks = leb 1 next && leb next ticks

abbrev pub slots_good : List ℕ → List ℕ → ℕ → ℕ → Bool
slots_good timers rdi count hold = every (within hold) timers && every (within 0) (drop count timers) && (every (within 1) rdi && every (within 0) (drop count rdi))

unfoldable pub well_formed : State → Bool
well_formed s =
    valid s.settings
    && (timers_good s (own_most s)
    && (next_good s.next (ticks_of s.settings.period)
    && (slots_good s.timers s.rdi s.settings.count (own_most s)
    && Session.well_formed s.session)))

-- the one test holds exactly where the paper's rules on a state do
pub record WellFormedIs : Type 0 where
  pub well_formed_is : (s : State) → (well_formed s ≡ true) ↔ WellFormed s
