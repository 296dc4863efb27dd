-- Which call is refused with which number. The paper, "Refusals by number, and dropped frames": the table and its order. Conditions only.
use Rattle.std.specs.Prelude.{ℕ, ◌<◌, ◌≡◌, List, [], length}
use Rattle.state_settings.specs.Settings.{Settings}
use Rattle.state_settings.specs.Valid.{Valid}
use Rattle.base_stamp.specs.declared.Stamp.{Stamp}
use Rattle.state_view.specs.State.{State}
use Rattle.state_view.specs.WellFormed.{WellFormed}
use Rattle.paper_said.specs.Calls.{active, Arrival, Call, new_setting, frame, tick, clear, send_LMM, send_DMM, conditions}
use Rattle.paper_said.specs.Cases.{level, LengthGood, StampGood, Oam, OwnLevel}
use Rattle.paper_said.specs.Drops.{Sound, GoodCcm}
use Rattle.paper_said.specs.Taken.{LossReply}
use Rattle.paper_said.specs.Made.{Reply}

-- ── the table of refusals: call and number, the number's line, and that no earlier one of the order holds ──

pub data Refusal (s : State) : Call → ℕ → Type 0 where
  -- a frame: 2, 1, 6, the frame rules, then 3 or 5
  frame_2 : (a : Arrival) → (WellFormed s → ⊥) → Refusal s (frame a) 2
  frame_1 : (a : Arrival) → WellFormed s → (LengthGood a → ⊥) → Refusal s (frame a) 1
  frame_6 : (a : Arrival) → WellFormed s → LengthGood a → (StampGood a.receive → StampGood a.transmit → ⊥) → Refusal s (frame a) 6
  frame_3 : (a : Arrival) (reply : List ℕ) → OwnLevel s a → Sound s a → Reply s a reply → length a.buffer < length reply → Refusal s (frame a) 3
  frame_5 : (a : Arrival) → LossReply s a → s.session.kept ≡ 1 → s.session.intervals ≡ 1000000000 → Refusal s (frame a) 5
  -- a tick: 2, then 3 on the period's last
  tick_2 : (b : List ℕ) → (WellFormed s → ⊥) → Refusal s (tick b) 2
  tick_3 : (b : List ℕ) → WellFormed s → s.next ≡ 1 → length b < 89 → Refusal s (tick b) 3
  -- a clear
  clear_2 : (WellFormed s → ⊥) → Refusal s clear 2
  -- an LMM: 2, 3
  lmm_2 : (b : List ℕ) → (WellFormed s → ⊥) → Refusal s (send_LMM b) 2
  lmm_3 : (b : List ℕ) → WellFormed s → length b < 31 → Refusal s (send_LMM b) 3
  -- a DMM: 2, 6, 3
  dmm_2 : (x : Stamp) (b : List ℕ) → (WellFormed s → ⊥) → Refusal s (send_DMM x b) 2
  dmm_6 : (x : Stamp) (b : List ℕ) → WellFormed s → (StampGood x → ⊥) → Refusal s (send_DMM x b) 6
  dmm_3 : (x : Stamp) (b : List ℕ) → WellFormed s → StampGood x → length b < 51 → Refusal s (send_DMM x b) 3
  -- a new setting
  setting_4 : (t : Settings) → (Valid t → ⊥) → Refusal s (new_setting t) 4
  -- conditions
  conditions_2 : (WellFormed s → ⊥) → Refusal s conditions 2

-- ── the one drop that changes something: rule 3's CCM of a lower level ──

pub data Remembered (s : State) : Call → Type 0 where
  lower_ccm : (a : Arrival) → Oam s a → a.side ≡ active → level a < s.settings.level → GoodCcm s a → Remembered s (frame a)

-- the buffer that a call is passed
abbrev pub handed : Call → List ℕ
handed (new_setting t) = []
handed (frame a) = a.buffer
handed (tick b) = b
handed clear = []
handed (send_LMM b) = b
handed (send_DMM t b) = b
handed conditions = []
