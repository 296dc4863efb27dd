-- The statement of specs/Start.antt. Assumes nothing.
use Prim.Native.Nat.{ℕ, zero, suc, ◌≤◌, zero-le}
use mathlib.Core.Path.{◌≡◌, refl, ◌∙◌}
use mathlib.Core.Bool.{Bool, true, false, cond}
use mathlib.Core.List.{List, [], ◌∷◌}
use native.Mathlib.Omega.{arith}
use lib.ListN.{get_or, replicate}
use Rattle.std.specs.Prelude.{Ok, Err}
use Rattle.base_laws.specs.Lists.{on_first}
use Rattle.base_laws.proofs.OnFirst.{changes}
use Rattle.base_period.specs.Periods.{hold_of}
use Rattle.base_period.proofs.Laws.{period_laws}
use Rattle.state_settings.specs.Settings.{slots, Settings, settings_of}
use Rattle.state_settings.specs.Valid.{Valid, valid}
use Rattle.loss_session.proofs.Laws.{cleared_well}
use Rattle.state_view.specs.State.{shown}
use Rattle.state_view.specs.WellFormed.{WellFormed}
use Rattle.call_setting.specs.declared.SettingRefusal.TheVariants.{Invalid}
use Rattle.call_setting.specs.Told.{setting_told}
use Rattle.call_setting.specs.Start.{start_of, zero_state, after_setting, answer_of, started_with, no_state, setting_of, setting_numbers}
use Rattle.call_setting.specs.Start.{Starts}

-- zeros, at every place and past the end
zeros-at : (n i : ℕ) → get_or {A = ℕ} (replicate n 0) i 0 ≡ 0
zeros-at zero i = refl
zeros-at (suc n) zero = refl
zeros-at (suc n) (suc i) = zeros-at n i

-- the first words set to h, the others within it: all are
first-within : (h n : ℕ) (l : List ℕ) → ((i : ℕ) → get_or l i 0 ≤ h) → (i : ℕ) → get_or (on_first (λ x. h) n l) i 0 ≤ h
unfolding on_first
first-within h zero l b i = b i
first-within h (suc n) [] b i = b i
first-within h (suc n) (x ∷ l) b zero = omega arith
first-within h (suc n) (x ∷ l) b (suc i) = first-within h n l (λ j. b (suc j)) i

well : (s : Settings) → Valid s → WellFormed (start_of s)
well s v = record {
  settings = v;
  timers = first-within (hold_of s.period) s.count (replicate slots 0) (λ i. omega (arith, zeros-at slots i));
  mismerge = zero-le;
  unexpected_level = zero-le;
  unexpected_mep = zero-le;
  unexpected_period = zero-le;
  ais = zero-le;
  lck = zero-le;
  some_tick = (period_laws.some s.period).1 (v.some_period, v.period);
  next = omega arith;
  rdi = λ i. omega (arith, zeros-at slots i);
  no_timer = λ i h. changes.rest (λ x. hold_of s.period) s.count (replicate slots 0) 0 i h ∙ zeros-at slots i;
  no_rdi = λ i h. zeros-at slots i;
  session = cleared_well;
}

zero_not : WellFormed zero_state → ⊥
zero_not w = let h : 1 ≤ 0 = w.settings.some_period in omega arith

-- ── valid or not ──

tells : (b : Bool) → setting_told (cond b (Ok tt) (Err Invalid)) ≡ cond b (record { refusal = 0 }) (record { refusal = 4 })
unfolding setting_told
tells true = refl
tells false = refl

pub agree : (s : Settings) → setting_told (answer_of s) ≡ setting_numbers s
agree s = tells (valid s)

module _ (words names ids : List ℕ) where
  answered : (b : Bool) → (cond b (started_with words names ids) no_state).answer ≡ cond b (Ok tt) (Err Invalid)
  unfolding started_with no_state
  answered true = refl
  answered false = refl

  handed_out : (b : Bool) → shown (cond b (started_with words names ids) no_state).state ≡ cond b
      (start_of (settings_of words names ids)) zero_state
  unfolding started_with no_state
  handed_out true = refl
  handed_out false = refl

  pub answers : (setting_of words names ids).answer ≡ answer_of (settings_of words names ids)
  unfolding setting_of
  answers = answered (valid (settings_of words names ids))

  pub hands_out : shown (setting_of words names ids).state ≡ after_setting (settings_of words names ids)
  unfolding setting_of
  hands_out = handed_out (valid (settings_of words names ids))

pub starts : Starts
starts = record { well = well; zero_not = zero_not; agree = agree; answers = answers; hands_out = hands_out }
