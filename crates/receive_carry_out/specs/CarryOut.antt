-- What is left where a decision about a frame is carried out: the answer, the state, the buffer. The paper, rules 3 to 8: a drop and a pass
-- change nothing; a reply is in the buffer, and refusal 3 changes nothing. Definitions only.
use Rattle.std.specs.Prelude.{ℕ, List, Result, Ok, Err}
use Rattle.base_laws.specs.Ended.{Ended, ended}
use Rattle.base_stamp.specs.declared.Stamp.{Stamp}
use Rattle.receive_delay.specs.declared.NoDelay.{NoDelay}
use Rattle.receive_delay.specs.declared.DelayValues.{DelayValues}
use Rattle.receive_delay.specs.declared.NoDelay.TheVariants as delay
use Rattle.receive_delay.specs.declared.DelayValues.TheVariants as delays
use Rattle.state_view.specs.State.{State}
use Rattle.receive_answer.specs.declared.Drop.TheVariants.{Value, TooLarge}
use Rattle.receive_answer.specs.declared.FrameRefusal.{FrameRefusal}
use Rattle.receive_answer.specs.declared.FrameDone.{FrameDone}
use Rattle.receive_answer.specs.declared.FrameDone.TheVariants.{Dropped, Passed, TwoWay, AllWays}
use Rattle.receive_change.specs.Change.{applied}
use Rattle.receive_respond.specs.Respond.{responded_of, left_after}
use Rattle.receive_handle.specs.declared.Decision.{Decision}
use Rattle.receive_handle.specs.declared.Decision.TheVariants.{Drops, Passes, Changes, Replies, Delays}

-- rule 8: D7, D8, or the delays
unfoldable pub delay_answer : Result DelayValues NoDelay → Result FrameDone FrameRefusal
delay_answer (Err delay.BadStamp) = Ok (Dropped Value)
delay_answer (Err delay.TooLarge) = Ok (Dropped TooLarge)
delay_answer (Ok (delays.TwoWay twoway)) = Ok (TwoWay twoway)
delay_answer (Ok (delays.AllWays twoway far near)) = Ok (AllWays twoway far near)

-- an answer and a state, with the buffer as it was
abbrev pub beside : List ℕ → Ended State (Result FrameDone FrameRefusal) → Ended State (Result FrameDone FrameRefusal)
beside buffer e = ended e.answer e.state buffer

unfoldable pub carried_out : State → List ℕ → Stamp → Stamp → List ℕ → Decision → Ended State (Result FrameDone FrameRefusal)
carried_out s f receive transmit buffer (Drops drop) = ended (Ok (Dropped drop)) s buffer
carried_out s f receive transmit buffer Passes = ended (Ok Passed) s buffer
carried_out s f receive transmit buffer (Changes change) = beside buffer (applied s change)
carried_out s f receive transmit buffer (Replies request) = ended (responded_of s f receive transmit buffer request) s (left_after s f receive transmit buffer request)
carried_out s f receive transmit buffer (Delays answer) = ended (delay_answer answer) s buffer
