-- Each function's answer in the paper's words. Definitions only.
use Rattle.std.specs.Prelude.{ℕ, cond, eqb, pos, Result, Ok, Err, Option, Some, None}
use Rattle.call_setting.specs.declared.SettingRefusal.TheVariants as setting
use Rattle.call_setting.specs.declared.SettingRefusal.{SettingRefusal}
use Rattle.call_clear.specs.declared.ClearRefusal.TheVariants as cleared
use Rattle.call_clear.specs.declared.ClearRefusal.{ClearRefusal}
use Rattle.call_conditions.specs.declared.ConditionFlags.{ConditionFlags}
use Rattle.call_conditions.specs.declared.ConditionsTold.{ConditionsTold}
use Rattle.call_send_answer.specs.declared.DmmRefusal.TheVariants as dmm
use Rattle.call_send_answer.specs.declared.DmmRefusal.{DmmRefusal}
use Rattle.call_send_answer.specs.declared.SendRefusal.TheVariants as send
use Rattle.call_send_answer.specs.declared.SendRefusal.{SendRefusal}
use Rattle.receive_answer.specs.Told.{drop_of}
use Rattle.receive_answer.specs.declared.FrameRefusal.TheVariants as answer
use Rattle.receive_answer.specs.declared.FrameDone.TheVariants as did
use Rattle.receive_answer.specs.declared.FrameRefusal.{FrameRefusal}
use Rattle.receive_answer.specs.declared.FrameDone.{FrameDone}
use Rattle.receive_class.specs.declared.Side.TheVariants as side
use Rattle.receive_class.specs.declared.Side.{Side}
use Rattle.state_view.specs.State.{State}
use Rattle.paper_said.specs.Calls as call
use Rattle.paper_said.specs.Calls.{Answer, refused, dropped, passed, taken, written, loss, delay, delays, done, standing, Raised}

abbrev pub side_of : call.ArrivalSide → Side
side_of call.active = side.Active
side_of call.passive = side.Passive

abbrev pub setting_answer : Result Unit SettingRefusal → Answer
setting_answer (Err setting.Invalid) = refused 4
setting_answer (Ok u) = done

-- the state that a caller holds after a new setting: what is returned, or, refused, what there was before
abbrev pub taken_over : State → ℕ → State → State
taken_over before refusal out = cond (eqb refusal 0) out before

abbrev pub frame_answer : Result FrameDone FrameRefusal → Answer
frame_answer (Err answer.NotWellFormed) = refused 2
frame_answer (Err answer.BadLength) = refused 1
frame_answer (Err answer.BadStamp) = refused 6
frame_answer (Err answer.NoRoom) = refused 3
frame_answer (Err answer.Full) = refused 5
frame_answer (Ok (did.Dropped drop)) = dropped (drop_of drop)
frame_answer (Ok did.Passed) = passed
frame_answer (Ok did.Taken) = taken
frame_answer (Ok (did.Replied n)) = written n
frame_answer (Ok did.First) = loss (pos 0) (pos 0)
frame_answer (Ok (did.Measured near far)) = loss near far
frame_answer (Ok (did.TwoWay twoway)) = delay twoway
frame_answer (Ok (did.AllWays twoway far near)) = delays twoway far near

abbrev pub clear_answer : Result Unit ClearRefusal → Answer
clear_answer (Err cleared.NotWellFormed) = refused 2
clear_answer (Ok u) = done

abbrev pub tick_answer : Result (Option ℕ) SendRefusal → Answer
tick_answer (Err send.NotWellFormed) = refused 2
tick_answer (Err send.NoRoom) = refused 3
tick_answer (Ok None) = done
tick_answer (Ok (Some n)) = written n

abbrev pub lmm_answer : Result ℕ SendRefusal → Answer
lmm_answer (Err send.NotWellFormed) = refused 2
lmm_answer (Err send.NoRoom) = refused 3
lmm_answer (Ok n) = written n

abbrev pub dmm_answer : Result ℕ DmmRefusal → Answer
dmm_answer (Err dmm.NotWellFormed) = refused 2
dmm_answer (Err dmm.BadStamp) = refused 6
dmm_answer (Err dmm.NoRoom) = refused 3
dmm_answer (Ok n) = written n

abbrev pub raised : ConditionFlags → Raised
raised c = record {
  lost = c.lost;
  rdi = c.rdi;
  mismerge = c.mismerge;
  unexpected_mep = c.unexpectedmep;
  unexpected_period = c.unexpectedperiod;
  unexpected_level = c.unexpectedlevel;
  ais = c.ais;
  lck = c.lck;
}

abbrev pub conditions_answer : ConditionsTold → Answer
conditions_answer t = cond (eqb t.refusal 0) (standing (raised t.conditions)) (refused t.refusal)
