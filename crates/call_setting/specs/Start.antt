-- The state that a new setting starts with. The paper: a new setting takes no old state; it starts with both service counts 0, a cleared
-- session, RDI off and a full period to run; peer timers start at the hold time, the others at 0. Refusal 4 returns an all-zero state.
-- Definitions and the statement only.
use Rattle.std.specs.Prelude.{ℕ, ◌≡◌, cond, List, eqb, pos, replicate, set, Result, Ok, Err}
use Rattle.base_laws.specs.Lists.{on_first}
use Rattle.base_period.specs.Periods.{ticks_of, hold_of}
use Rattle.state_settings.specs.Settings.{slots, Settings, settings_of, name_octets, set_words}
use Rattle.state_settings.specs.Valid.{Valid, valid}
use Rattle.loss_session.specs.Session.{cleared_session}
use Rattle.state_view.specs.State.{State, shown, run_words, loss_totals}
use Rattle.state_view.specs.Changed.{next, place_of}
use Rattle.state_view.specs.declared.StateArrays.{StateArrays}
use Rattle.state_view.specs.WellFormed.{WellFormed}
use Rattle.call_setting.specs.declared.SettingRefusal.{SettingRefusal}
use Rattle.call_setting.specs.declared.SettingRefusal.TheVariants.{Invalid}
use Rattle.call_setting.specs.declared.SettingTold.{SettingTold}
use Rattle.call_setting.specs.Told.{setting_told}
use Rattle.call_setting.specs.declared.Started.{Started}
use Rattle.call_setting.specs.declared.NewBox.{NewBox}

abbrev pub start_of : Settings → State
start_of s = record {
  settings = s;
  timers = on_first (λ x. hold_of s.period) s.count (replicate slots 0);
  rdi = replicate slots 0;
  mismerge = 0;
  unexpected_level = 0;
  unexpected_mep = 0;
  unexpected_period = 0;
  ais = 0;
  lck = 0;
  next = ticks_of s.period;
  sent = 0;
  received = 0;
  session = cleared_session;
}

-- every word, octet and total 0
abbrev pub zero_arrays : StateArrays
zero_arrays = record {
  set = replicate set_words 0;
  names = replicate name_octets 0;
  ids = replicate slots 0;
  timers = replicate slots 0;
  rdi = replicate slots 0;
  run = replicate run_words 0;
  totals = replicate loss_totals (pos 0);
}

abbrev pub zero_state : State
zero_state = shown zero_arrays

-- the state that a new setting returns: that which it starts with, or, beside refusal 4, zeros
abbrev pub after_setting : Settings → State
after_setting s = cond (valid s) (start_of s) zero_state

abbrev pub answer_of : Settings → Result Unit SettingRefusal
answer_of s = cond (valid s) (Ok tt) (Err Invalid)

-- ── in the arrays that are returned, each of them whole ──

-- the settings as they were lent, the peers' timers at the hold time, a period to run, and zeros
abbrev pub start_arrays : List ℕ → List ℕ → List ℕ → StateArrays
start_arrays words names ids = record {
  set = words;
  names = names;
  ids = ids;
  timers = (start_of (settings_of words names ids)).timers;
  rdi = replicate slots 0;
  run = set (replicate run_words 0) (place_of next) (ticks_of (settings_of words names ids).period);
  totals = replicate loss_totals (pos 0);
}

unfoldable pub started_with : List ℕ → List ℕ → List ℕ → Started
started_with words names ids = record { answer = Ok tt; state = start_arrays words names ids }

unfoldable pub no_state : Started
no_state = record { answer = Err Invalid; state = zero_arrays }

-- from settings in their arrays: words, names, IDs
unfoldable pub setting_of : List ℕ → List ℕ → List ℕ → Started
setting_of words names ids = cond (valid (settings_of words names ids)) (started_with words names ids) no_state

-- ── in the paper's numbers ──

abbrev pub setting_numbers : Settings → SettingTold
setting_numbers s = cond (valid s) (record { refusal = 0 }) (record { refusal = 4 })

-- what a new setting returns, its answer by its number, and the answer that a number means
abbrev pub box_of : Started → NewBox
box_of s = record { refusal = (setting_told s.answer).refusal; state = s.state }

abbrev pub answer_told : ℕ → Result Unit SettingRefusal
answer_told refusal = cond (eqb refusal 0) (Ok tt) (Err Invalid)

-- a valid setting starts well formed; the all-zero state is not well formed; the answer, and the state that the returned arrays show
-- (`state_view.shown`), are those of the setting (`call_setting.answer_of`, `call_setting.after_setting`)
pub record Starts : Type 0 where
  -- a valid one starts well formed, and the all-zero state is not well formed
  pub well : (t : Settings) → Valid t → WellFormed (start_of t)
  pub zero_not : WellFormed zero_state → ⊥
  pub agree : (t : Settings) → setting_told (answer_of t) ≡ setting_numbers t
  -- what is in the arrays is the answer and the state of the definitions above
  pub answers : (words names ids : List ℕ) → (setting_of words names ids).answer ≡ answer_of (settings_of words names ids)
  pub hands_out : (words names ids : List ℕ) → shown (setting_of words names ids).state ≡ after_setting (settings_of words names ids)
