-- The numbers that a caller is given are those of the paper's answer: what each function's `told` says agrees with how its answer is held
-- against the paper. Definitions and the statement only.
use Rattle.std.specs.Prelude.{ℕ, ◌≡◌, ℤ, pos, Result, Option}
use Rattle.call_setting.specs.Told as Setting
use Rattle.call_setting.specs.declared.SettingRefusal.{SettingRefusal}
use Rattle.call_clear.specs.Clear as Clear
use Rattle.call_clear.specs.declared.ClearRefusal.{ClearRefusal}
use Rattle.call_send_answer.specs.Told.{tick_told, lmm_told, dmm_told}
use Rattle.call_send_answer.specs.declared.DmmRefusal.{DmmRefusal}
use Rattle.call_send_answer.specs.declared.SendRefusal.{SendRefusal}
use Rattle.receive_answer.specs.Told as Frame
use Rattle.receive_answer.specs.declared.FrameRefusal.{FrameRefusal}
use Rattle.receive_answer.specs.declared.FrameDone.{FrameDone}
use Rattle.receive_answer.specs.declared.FrameTold.{FrameTold}
use Rattle.paper_said.specs.Calls.{Answer, refused, dropped, passed, taken, written, loss, delay, delays, done, standing}
use Rattle.paper_said.specs.Words.{setting_answer, frame_answer, clear_answer, tick_answer, lmm_answer, dmm_answer}

-- refusal, drop, length of what was written, near and far loss, two-way delay, one-way far and near; what an answer does not have is 0
pub record Numbers : Type 0 where
  pub refusal : ℕ
  pub drop : ℕ
  pub length : ℕ
  pub near : ℤ
  pub far : ℤ
  pub twoway : ℤ
  pub onewayfar : ℤ
  pub onewaynear : ℤ

abbrev pub counted : ℕ → ℕ → ℕ → Numbers
counted refusal drop length = record { refusal = refusal; drop = drop; length = length; near = pos 0; far = pos 0; twoway = pos 0; onewayfar = pos 0; onewaynear = pos 0 }

abbrev pub answer_numbers : Answer → Numbers
answer_numbers (refused n) = counted n 0 0
answer_numbers (dropped n) = counted 0 n 0
answer_numbers passed = counted 0 0 0
answer_numbers taken = counted 0 0 0
answer_numbers (written n) = counted 0 0 n
answer_numbers (loss n f) = record { refusal = 0; drop = 0; length = 0; near = n; far = f; twoway = pos 0; onewayfar = pos 0; onewaynear = pos 0 }
answer_numbers (delay t) = record { refusal = 0; drop = 0; length = 0; near = pos 0; far = pos 0; twoway = t; onewayfar = pos 0; onewaynear = pos 0 }
answer_numbers (delays t f n) = record { refusal = 0; drop = 0; length = 0; near = pos 0; far = pos 0; twoway = t; onewayfar = f; onewaynear = n }
answer_numbers done = counted 0 0 0
answer_numbers (standing r) = counted 0 0 0

-- what a frame is answered, in these words; but for what was done, which distinguishes a first reading from an interval without loss
abbrev pub frame_as_numbers : FrameTold → Numbers
frame_as_numbers t = record {
  refusal = t.refusal;
  drop = t.drop;
  length = t.length;
  near = t.near;
  far = t.far;
  twoway = t.twoway;
  onewayfar = t.onewayfar;
  onewaynear = t.onewaynear;
}

-- the numbers that each function returns are those of the paper's answer
pub record ToldAlike : Type 0 where
  pub setting : (r : Result Unit SettingRefusal) → counted (Setting.setting_told r).refusal 0 0 ≡ answer_numbers (setting_answer r)
  pub frame : (r : Result FrameDone FrameRefusal) → frame_as_numbers (Frame.frame_told r) ≡ answer_numbers (frame_answer r)
  pub tick : (r : Result (Option ℕ) SendRefusal) → counted (tick_told r).refusal 0 (tick_told r).length ≡ answer_numbers (tick_answer r)
  pub clear : (r : Result Unit ClearRefusal) → counted (Clear.clear_told r).refusal 0 0 ≡ answer_numbers (clear_answer r)
  pub lmm : (r : Result ℕ SendRefusal) → counted (lmm_told r).refusal 0 (lmm_told r).length ≡ answer_numbers (lmm_answer r)
  pub dmm : (r : Result ℕ DmmRefusal) → counted (dmm_told r).refusal 0 (dmm_told r).length ≡ answer_numbers (dmm_answer r)
