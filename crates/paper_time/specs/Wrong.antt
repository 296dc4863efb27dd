-- Boxes that are out of time. Definitions and the statement only.
use Rattle.std.specs.Prelude.{ℕ, ◌-◌, ◌<◌, ◌≡◌, cond, List, length}
use Rattle.state_settings.specs.Valid.{valid}
use Rattle.state_view.specs.State.{State}
use Rattle.state_view.specs.Changed.{put, next}
use Rattle.call_setting.specs.Start.{start_of}
use Rattle.paper_said.specs.Calls.{Call, new_setting, frame, tick, clear, send_LMM, send_DMM, conditions, NoSetting}
use Rattle.paper_said.specs.Calls.{refused, done, hands_out, Box}
use Rattle.paper_said.specs.Ours.{ours}
use Rattle.paper_time.specs.Time.{Time}

-- a state with a tick less to run to its next CCM
abbrev pub sooner : State → State
sooner s = put next (s.next - 1) s

-- ours, but a setting that is taken starts with a tick less than a period to run: that state it leaves, and that it returns
abbrev pub early : Box
early s (new_setting t) = cond (valid t) (hands_out done (sooner (start_of t)) (sooner (start_of t))) (ours s (new_setting t))
early s (frame a) = ours s (frame a)
early s (tick b) = ours s (tick b)
early s clear = ours s clear
early s (send_LMM b) = ours s (send_LMM b)
early s (send_DMM t b) = ours s (send_DMM t b)
early s conditions = ours s conditions

-- a CCM a tick early, every tick refused, room wanted at every tick, nothing changed but by a setting: none of these boxes is in time
pub record OutOfTime : Type 0 where
  -- one whose CCM comes a tick early
  pub a_tick_early : Time early → ⊥
  -- one that refuses every tick, whatever else it does
  pub refuses_ticks : (B : Box) → ((s : State) (b : List ℕ) → (n : ℕ) × ((B s (tick b)).answer ≡ refused n)) → Time B → ⊥
  -- one that refuses every tick without room for a CCM, also where none is due
  pub wants_room : (B : Box) → ((s : State) (b : List ℕ) → length b < 89 → (n : ℕ) × ((B s (tick b)).answer ≡ refused n)) → Time B → ⊥
  -- one that changes nothing at any call but a new setting, whatever it answers
  pub touches_nothing : (B : Box) → ((s : State) (c : Call) → NoSetting c → (B s c).state ≡ s) → Time B → ⊥
