-- The numbers of each answer are read as that answer. Assumes nothing.
use Prim.Native.Nat.{ℕ}
use mathlib.Core.Path.{◌≡◌, refl}
use mathlib.Core.List.{List}
use Rattle.std.specs.Prelude.{Result, Ok, Err, Option, Some, None}
use Rattle.frame_seek.specs.declared.Span.{Span}
use Rattle.base_laws.specs.Tests.{choose}
use Rattle.state_view.specs.State.{State}
use Rattle.receive_answer.specs.declared.Drop.{Drop}
use Rattle.receive_answer.specs.declared.Drop.TheVariants as drop
use Rattle.receive_answer.specs.declared.FrameRefusal.{FrameRefusal}
use Rattle.receive_answer.specs.declared.FrameDone.{FrameDone}
use Rattle.receive_answer.specs.declared.FrameRefusal.TheVariants as answer
use Rattle.receive_answer.specs.declared.FrameDone.TheVariants as did
use Rattle.receive_answer.specs.Told as Frame
use Rattle.call_clear.specs.declared.ClearRefusal.{ClearRefusal}
use Rattle.call_clear.specs.declared.ClearRefusal.TheVariants as cleared
use Rattle.call_clear.specs.Clear as Clear
use Rattle.call_setting.specs.declared.SettingRefusal.{SettingRefusal}
use Rattle.call_setting.specs.declared.SettingRefusal.TheVariants as setting
use Rattle.call_setting.specs.Told as Setting
use Rattle.call_send_answer.specs.declared.DmmRefusal.{DmmRefusal}
use Rattle.call_send_answer.specs.declared.DmmRefusal.TheVariants as dmm
use Rattle.call_send_answer.specs.declared.SendRefusal.{SendRefusal}
use Rattle.call_send_answer.specs.declared.SendRefusal.TheVariants as lmm
use Rattle.call_send_answer.specs.Told.{tick_told, lmm_told, dmm_told}
use Rattle.call_tick.specs.Tick.{tick_of}
use Rattle.call_tick.proofs.Ticks.{of_four}
use Rattle.stored_record.specs.declared.RecordRefusal.{RecordRefusal}
use Rattle.stored_record.specs.declared.RecordRefusal.TheVariants as stored
use Rattle.stored_record.specs.Writing as Writing
use Rattle.stored_line.specs.declared.LossLine.{LossLine}
use Rattle.stored_line.specs.LineCalls as Line
use Rattle.frame_reader_answer.specs.declared.Bad.{Bad}
use Rattle.frame_reader_answer.specs.declared.Bad.TheVariants as bad
use Rattle.frame_reader_answer.specs.Told as Reasons
use Rattle.frame_reader.specs.Reader.{part_of, answer_at}
use Rattle.linkbox_reader.specs.Tlvs.{tlv_at}
use Rattle.paper_said.specs.Words.{setting_answer, frame_answer, clear_answer, tick_answer, lmm_answer, dmm_answer}
use Rattle.paper_beside.specs.Records.{write_tells, line_tells}
use Rattle.paper_beside.specs.Reader.{reader_tells}
use Rattle.linkbox_said.specs.Heard.{plain_says, frame_says, tick_says, send_says, write_says, line_says, tlv_says}

pub setting-says : (x : Result Unit SettingRefusal) → plain_says (Setting.setting_told x).refusal ≡ setting_answer x
unfolding Setting.setting_told
setting-says (Err setting.Invalid) = refl
setting-says (Ok u) = refl

pub clear-says : (x : Result Unit ClearRefusal) → plain_says (Clear.clear_told x).refusal ≡ clear_answer x
unfolding Clear.clear_told
clear-says (Err cleared.NotWellFormed) = refl
clear-says (Ok u) = refl

drop-says : (d : Drop) → frame_says (Frame.frame_told (Ok (did.Dropped d))) ≡ frame_answer (Ok (did.Dropped d))
unfolding Frame.frame_told Frame.drop_of choose
drop-says drop.Short = refl
drop-says drop.Level = refl
drop-says drop.Opcode = refl
drop-says drop.Offset = refl
drop-says drop.CutOff = refl
drop-says drop.Destination = refl
drop-says drop.Value = refl
drop-says drop.TooLarge = refl

pub frame-says : (x : Result FrameDone FrameRefusal) → frame_says (Frame.frame_told x) ≡ frame_answer x
unfolding Frame.frame_told choose
frame-says (Err answer.NotWellFormed) = refl
frame-says (Err answer.BadLength) = refl
frame-says (Err answer.BadStamp) = refl
frame-says (Err answer.NoRoom) = refl
frame-says (Err answer.Full) = refl
frame-says (Ok (did.Dropped d)) = drop-says d
frame-says (Ok did.Passed) = refl
frame-says (Ok did.Taken) = refl
frame-says (Ok (did.Replied n)) = refl
frame-says (Ok did.First) = refl
frame-says (Ok (did.Measured near far)) = refl
frame-says (Ok (did.TwoWay twoway)) = refl
frame-says (Ok (did.AllWays twoway far near)) = refl

-- of a tick's own answers: a CCM is longer than nothing
pub tick-says : (s : State) (buffer : List ℕ) → tick_says (tick_told (tick_of s buffer).answer) ≡ tick_answer (tick_of s buffer).answer
unfolding tick_told choose
tick-says s buffer = of_four (λ x. tick_says (tick_told x) ≡ tick_answer x) refl refl refl refl s buffer

pub lmm-says : (x : Result ℕ SendRefusal) → send_says (lmm_told x) ≡ lmm_answer x
unfolding lmm_told
lmm-says (Err lmm.NotWellFormed) = refl
lmm-says (Err lmm.NoRoom) = refl
lmm-says (Ok n) = refl

pub dmm-says : (x : Result ℕ DmmRefusal) → send_says (dmm_told x) ≡ dmm_answer x
unfolding dmm_told
dmm-says (Err dmm.NotWellFormed) = refl
dmm-says (Err dmm.BadStamp) = refl
dmm-says (Err dmm.NoRoom) = refl
dmm-says (Ok n) = refl

pub write-says : (x : Result ℕ RecordRefusal) → write_says (Writing.record_told x) ≡ write_tells x
unfolding Writing.record_told
write-says (Err stored.BreaksRule) = refl
write-says (Err stored.NoRoom) = refl
write-says (Ok n) = refl

pub line-says : (x : Option LossLine) → line_says (Line.line_told x) ≡ line_tells x
unfolding Line.line_told
line-says None = refl
line-says (Some l) = refl

bad-says : (f : List ℕ) (b : Bad) → tlv_says (tlv_at (Err b)) f ≡ reader_tells (answer_at (Err b)) (part_of f (Err b))
unfolding Reasons.tlv_told Reasons.bad_of choose
bad-says f bad.Length = refl
bad-says f bad.Short = refl
bad-says f bad.Opcode = refl
bad-says f bad.Offset = refl
bad-says f bad.CutOff = refl

pub tlv-says : (f : List ℕ) (s : Result (Option Span) Bad) → tlv_says (tlv_at s) f ≡ reader_tells (answer_at s) (part_of f s)
unfolding Reasons.tlv_told choose
tlv-says f (Ok (Some value)) = refl
tlv-says f (Ok None) = refl
tlv-says f (Err b) = bad-says f b
