-- Which settings are taken, what a new setting starts with, and what a refused one returns. The paper, "A new setting takes no old
-- state", and refusal 4. Conditions only.
use Rattle.std.specs.Prelude.{ℕ, ◌≤◌, ◌<◌, ◌≡◌, length, get_or, replicate}
use Rattle.base_period.specs.Periods.{ticks_of, hold_of}
use Rattle.state_settings.specs.Settings.{Settings, slots}
use Rattle.state_settings.specs.Valid.{Valid}
use Rattle.loss_session.specs.Session.{cleared_session}
use Rattle.state_view.specs.State.{State}
use Rattle.paper_said.specs.Calls.{new_setting, OnWire}

-- settings that are taken: of the lengths in which they are passed in, and valid
pub record Settable (t : Settings) : Type 0 where
  pub handed : OnWire (new_setting t)
  pub valid : Valid t

-- what a setting starts with: peers held as if just heard, nothing else running, nothing counted or measured, the first CCM a period away
pub record Fresh (t : Settings) (s : State) : Type 0 where
  pub settings : s.settings ≡ t
  pub peers : (k : ℕ) → k < slots → k < t.count → get_or s.timers k 0 ≡ hold_of t.period
  pub no_peer : (k : ℕ) → k < slots → t.count ≤ k → get_or s.timers k 0 ≡ 0
  pub slots_timers : length s.timers ≡ slots
  pub rdi : s.rdi ≡ replicate slots 0
  pub mismerge : s.mismerge ≡ 0
  pub unexpected_mep : s.unexpected_mep ≡ 0
  pub unexpected_period : s.unexpected_period ≡ 0
  pub unexpected_level : s.unexpected_level ≡ 0
  pub ais : s.ais ≡ 0
  pub lck : s.lck ≡ 0
  pub next : s.next ≡ ticks_of t.period
  pub sent : s.sent ≡ 0
  pub received : s.received ≡ 0
  pub session : s.session ≡ cleared_session

-- what a refused setting returns: zeros everywhere
pub record NoSettings (t : Settings) : Type 0 where
  pub level : t.level ≡ 0
  pub mep : t.mep ≡ 0
  pub period : t.period ≡ 0
  pub count : t.count ≡ 0
  pub own : t.own ≡ replicate 6 0
  pub losspeer : t.losspeer ≡ replicate 6 0
  pub meg : t.meg ≡ replicate 48 0
  pub ids : t.ids ≡ replicate slots 0

-- what beside refusal 4 is returned: every word is 0
pub record AllZero (s : State) : Type 0 where
  pub settings : NoSettings s.settings
  pub timers : s.timers ≡ replicate slots 0
  pub rdi : s.rdi ≡ replicate slots 0
  pub mismerge : s.mismerge ≡ 0
  pub unexpected_mep : s.unexpected_mep ≡ 0
  pub unexpected_period : s.unexpected_period ≡ 0
  pub unexpected_level : s.unexpected_level ≡ 0
  pub ais : s.ais ≡ 0
  pub lck : s.lck ≡ 0
  pub next : s.next ≡ 0
  pub sent : s.sent ≡ 0
  pub received : s.received ≡ 0
  pub session : s.session ≡ cleared_session
