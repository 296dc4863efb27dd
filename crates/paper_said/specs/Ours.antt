-- Our box, made of the very definitions that the contracts of its functions name; and that it follows the paper. Definitions and the
-- statement only.
use Rattle.std.specs.Prelude.{◌≡◌, cond, []}
use Rattle.base_laws.specs.Ended.{Ended}
use Rattle.state_settings.specs.Valid.{valid}
use Rattle.state_view.specs.State.{State}
use Rattle.call_setting.specs.Start.{start_of, answer_of, after_setting}
use Rattle.call_clear.specs.Clear.{clear_of}
use Rattle.call_conditions.specs.Conditions.{conditions_of}
use Rattle.call_tick.specs.Tick.{tick_of}
use Rattle.call_send_lmm.specs.Lmm.{send_lmm}
use Rattle.call_send_dmm.specs.Dmm.{send_dmm}
use Rattle.receive_frame.specs.Frame.{frame_of}
use Rattle.paper_said.specs.Calls as call
use Rattle.paper_said.specs.Calls.{Call, Answer, Outcome, leaves, hands_out, OnWire, Box}
use Rattle.paper_said.specs.Said.{Said}
use Rattle.paper_said.specs.Words.{side_of, setting_answer, frame_answer, clear_answer, tick_answer, lmm_answer, dmm_answer, conditions_answer}

-- ── each call ──

-- how a call of ours ends, its answer in the paper's words
abbrev pub in_words : {A : Type 0} → (A → Answer) → Ended State A → Outcome
in_words answer e = leaves (answer e.answer) e.state e.buffer

abbrev pub ours : Box
ours s (call.new_setting t) = hands_out (setting_answer (answer_of t)) (cond (valid t) (start_of t) s) (after_setting t)
ours s (call.frame a) = in_words frame_answer (frame_of s (side_of a.side) a.octets a.receive a.transmit a.buffer)
ours s (call.tick b) = in_words tick_answer (tick_of s b)
ours s call.clear = in_words clear_answer (clear_of s)
ours s (call.send_LMM b) = in_words lmm_answer (send_lmm s b)
ours s (call.send_DMM t b) = in_words dmm_answer (send_dmm s t b)
ours s call.conditions = leaves (conditions_answer (conditions_of s)) s []

-- ── a box follows the paper: whatever the paper says of a call, the box leaves ──

pub record Follows (B : Box) : Type 0 where
  pub follows : (s : State) (c : Call) (o : Outcome) → OnWire c → Said s c o → B s c ≡ o

-- whatever the paper says of a call, our box leaves
pub record OursFollows : Type 0 where
  pub box : Follows ours
