-- What the paper says of every call but a frame: clear, tick, what is sent when the caller asks, a new setting, conditions. A line for each
-- sentence that decides something, as in Judged.antt. Definitions only.
use Rattle.std.specs.Prelude.{ℕ, ◌≤◌, ◌<◌, ◌-◌, ◌≡◌, List, [], length}
use Rattle.base_laws.specs.Lists.{laid}
use Rattle.base_period.specs.Periods.{ticks_of}
use Rattle.state_settings.specs.Settings.{Settings}
use Rattle.state_settings.specs.Valid.{Valid}
use Rattle.loss_session.specs.Session.{cleared_session}
use Rattle.state_view.specs.Changed as word
use Rattle.state_view.specs.Changed.{put, with_session, lowered}
use Rattle.state_view.specs.State.{State}
use Rattle.state_view.specs.WellFormed.{WellFormed}
use Rattle.base_stamp.specs.declared.Stamp.{Stamp}
use Rattle.paper_said.specs.Calls.{Call, new_setting, tick, clear, send_LMM, send_DMM, conditions, Raised, refused, written, done, standing, Outcome, leaves, hands_out}
use Rattle.paper_said.specs.Cases.{StampGood}
use Rattle.paper_said.specs.Started.{Fresh, AllZero}
use Rattle.paper_said.specs.Standing.{Flag, Stands, Shows}
use Rattle.paper_said.specs.Made.{ccm_from, lmm_from, dmm_from}

-- `Called s call o`: to this call in state s, the paper's outcome is o
pub data Called (s : State) : Call → Outcome → Type 0 where
  -- ── a clear starts the loss session again, and changes nothing else ──
  clear_2 : (WellFormed s → ⊥) → Called s clear (leaves (refused 2) s [])
  clears : WellFormed s → Called s clear (leaves done (with_session cleared_session s) [])
  -- ── a tick: timers run down, and the last of a period sends a CCM ──
  tick_2 : (b : List ℕ) → (WellFormed s → ⊥) → Called s (tick b) (leaves (refused 2) s b)
  tick_lowers : (b : List ℕ) → WellFormed s → 1 < s.next → Called s (tick b) (leaves done (put word.next (s.next - 1) (lowered s)) b)
  -- 3: no room for the CCM, and the tick has not passed
  tick_3 : (b : List ℕ) → WellFormed s → s.next ≡ 1 → length b < 89 → Called s (tick b) (leaves (refused 3) s b)
  -- its RDI is judged on the timers as this tick leaves them
  tick_sends : (b : List ℕ) (rdi : ℕ) → WellFormed s → s.next ≡ 1 → 89 ≤ length b → Flag (Stands (lowered s)) rdi
      → Called s (tick b) (leaves (written 89) (put word.next (ticks_of s.settings.period) (lowered s)) (laid 0 (ccm_from s rdi) b))
  -- ── what is sent when the caller asks ──
  lmm_2 : (b : List ℕ) → (WellFormed s → ⊥) → Called s (send_LMM b) (leaves (refused 2) s b)
  lmm_3 : (b : List ℕ) → WellFormed s → length b < 31 → Called s (send_LMM b) (leaves (refused 3) s b)
  lmm_sends : (b : List ℕ) → WellFormed s → 31 ≤ length b → Called s (send_LMM b) (leaves (written 31) s (laid 0 (lmm_from s) b))
  dmm_2 : (x : Stamp) (b : List ℕ) → (WellFormed s → ⊥) → Called s (send_DMM x b) (leaves (refused 2) s b)
  dmm_6 : (x : Stamp) (b : List ℕ) → WellFormed s → (StampGood x → ⊥) → Called s (send_DMM x b) (leaves (refused 6) s b)
  dmm_3 : (x : Stamp) (b : List ℕ) → WellFormed s → StampGood x → length b < 51 → Called s (send_DMM x b) (leaves (refused 3) s b)
  dmm_sends : (x : Stamp) (b : List ℕ) → WellFormed s → StampGood x → 51 ≤ length b → Called s (send_DMM x b) (leaves (written 51) s (laid 0 (dmm_from s x) b))
  -- ── a new setting, whatever state there was before ──
  -- 4: an all-zero state is returned, and the caller's own stays
  setting_4 : (t : Settings) (zero : State) → (Valid t → ⊥) → AllZero zero → Called s (new_setting t) (hands_out (refused 4) s zero)
  setting_starts : (t : Settings) (fresh : State) → Valid t → Fresh t fresh → Called s (new_setting t) (hands_out done fresh fresh)
  -- ── conditions: what is active, and no change ──
  conditions_2 : (WellFormed s → ⊥) → Called s conditions (leaves (refused 2) s [])
  conditions_show : (r : Raised) → WellFormed s → Shows s r → Called s conditions (leaves (standing r) s [])
