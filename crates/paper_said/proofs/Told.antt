-- Each case of each answer, by computing. Assumes nothing.
use mathlib.Core.Path.{◌≡◌, refl}
use Rattle.std.specs.Prelude.{ℕ, Result, Ok, Err, Option, Some, None}
use Rattle.call_setting.specs.declared.SettingRefusal.{SettingRefusal}
use Rattle.call_setting.specs.declared.SettingRefusal.TheVariants as setting
use Rattle.call_setting.specs.Told as Setting
use Rattle.receive_answer.specs.declared.FrameRefusal.{FrameRefusal}
use Rattle.receive_answer.specs.declared.FrameDone.{FrameDone}
use Rattle.receive_answer.specs.declared.FrameRefusal.TheVariants as answer
use Rattle.receive_answer.specs.declared.FrameDone.TheVariants as did
use Rattle.receive_answer.specs.Told as Frame
use Rattle.call_clear.specs.declared.ClearRefusal.{ClearRefusal}
use Rattle.call_clear.specs.declared.ClearRefusal.TheVariants as cleared
use Rattle.call_clear.specs.Clear as Clear
use Rattle.call_send_answer.specs.declared.SendRefusal.{SendRefusal}
use Rattle.call_send_answer.specs.declared.SendRefusal.TheVariants as send
use Rattle.call_send_answer.specs.Told.{tick_told, lmm_told, dmm_told}
use Rattle.call_send_answer.specs.declared.DmmRefusal.{DmmRefusal}
use Rattle.call_send_answer.specs.declared.DmmRefusal.TheVariants as dmm
use Rattle.paper_said.specs.Words.{setting_answer, frame_answer, clear_answer, tick_answer, lmm_answer, dmm_answer}
use Rattle.paper_said.specs.Told.{counted, answer_numbers, frame_as_numbers, ToldAlike}

of-setting : (r : Result Unit SettingRefusal) → counted (Setting.setting_told r).refusal 0 0 ≡ answer_numbers (setting_answer r)
unfolding Setting.setting_told
of-setting (Err setting.Invalid) = refl
of-setting (Ok u) = refl

of-frame : (r : Result FrameDone FrameRefusal) → frame_as_numbers (Frame.frame_told r) ≡ answer_numbers (frame_answer r)
unfolding Frame.frame_told
of-frame (Err answer.NotWellFormed) = refl
of-frame (Err answer.BadLength) = refl
of-frame (Err answer.BadStamp) = refl
of-frame (Err answer.NoRoom) = refl
of-frame (Err answer.Full) = refl
of-frame (Ok (did.Dropped drop)) = refl
of-frame (Ok did.Passed) = refl
of-frame (Ok did.Taken) = refl
of-frame (Ok (did.Replied n)) = refl
of-frame (Ok did.First) = refl
of-frame (Ok (did.Measured near far)) = refl
of-frame (Ok (did.TwoWay twoway)) = refl
of-frame (Ok (did.AllWays twoway far near)) = refl

of-tick : (r : Result (Option ℕ) SendRefusal) → counted (tick_told r).refusal 0 (tick_told r).length ≡ answer_numbers (tick_answer r)
unfolding tick_told
of-tick (Err send.NotWellFormed) = refl
of-tick (Err send.NoRoom) = refl
of-tick (Ok None) = refl
of-tick (Ok (Some n)) = refl

of-clear : (r : Result Unit ClearRefusal) → counted (Clear.clear_told r).refusal 0 0 ≡ answer_numbers (clear_answer r)
unfolding Clear.clear_told
of-clear (Err cleared.NotWellFormed) = refl
of-clear (Ok u) = refl

of-lmm : (r : Result ℕ SendRefusal) → counted (lmm_told r).refusal 0 (lmm_told r).length ≡ answer_numbers (lmm_answer r)
unfolding lmm_told
of-lmm (Err send.NotWellFormed) = refl
of-lmm (Err send.NoRoom) = refl
of-lmm (Ok n) = refl

of-dmm : (r : Result ℕ DmmRefusal) → counted (dmm_told r).refusal 0 (dmm_told r).length ≡ answer_numbers (dmm_answer r)
unfolding dmm_told
of-dmm (Err dmm.NotWellFormed) = refl
of-dmm (Err dmm.BadStamp) = refl
of-dmm (Err dmm.NoRoom) = refl
of-dmm (Ok n) = refl

pub told-alike : ToldAlike
told-alike = record { setting = of-setting; frame = of-frame; tick = of-tick; clear = of-clear; lmm = of-lmm; dmm = of-dmm }
