-- What a frame is answered, in the paper's numbers alone: a chain of rules from what is given, beside the one in Frame.antt that gives an
-- answer. The paper, "Refusals", and rules 3 to 8. Definitions and the statement only.
use Rattle.std.specs.Prelude.{ℕ, ◌≡◌, ◌&&◌, not, List, [], ◌∷◌, eqb, length, Result, Ok, Err}
use Rattle.base_laws.specs.Tests.{choose}
use Rattle.loss_session.specs.declared.Readings.{Readings}
use Rattle.loss_session.specs.declared.LossSession.{LossSession}
use Rattle.loss_session.specs.Session.{near, far, readings, most_intervals}
use Rattle.loss_session.specs.Session as session
use Rattle.loss_reading.specs.Reading.{loss_on}
use Rattle.state_view.specs.State.{State}
use Rattle.state_view.specs.WellFormed.{well_formed}
use Rattle.base_stamp.specs.declared.Stamp.{Stamp}
use Rattle.base_stamp.specs.Stamps.{good}
use Rattle.receive_delay.specs.declared.NoDelay.{NoDelay}
use Rattle.receive_delay.specs.declared.DelayValues.{DelayValues}
use Rattle.receive_delay.specs.declared.NoDelay.TheVariants as delay
use Rattle.receive_delay.specs.declared.DelayValues.TheVariants as delays
use Rattle.frame_head.specs.Head.{length_good}
use Rattle.message_parts.specs.Buffer.{no_room}
use Rattle.message_reply.specs.Replied.{cut_off}
use Rattle.receive_answer.specs.declared.FrameTold.{FrameTold}
use Rattle.receive_answer.specs.Told.{drop_of, absent, tell_frame, refused, dropped, frame_told}
use Rattle.receive_class.specs.declared.Side.{Side}
use Rattle.receive_change.specs.declared.Change.{Change}
use Rattle.receive_change.specs.declared.Change.TheVariants.{Sent, Received, UnexpectedLevel, Told, Reading}
use Rattle.receive_respond.specs.Respond.{fixed_for, reply_for}
use Rattle.receive_handle.specs.declared.Decision.{Decision}
use Rattle.receive_handle.specs.declared.Decision.TheVariants.{Drops, Passes, Changes, Replies, Delays}
use Rattle.receive_decide.specs.Decide.{decide_of}
use Rattle.receive_frame.specs.Frame.{frame_of}

-- done without a value
abbrev pub plain : ℕ → FrameTold
plain done = tell_frame 0 0 done 0 absent absent absent absent absent

-- rule 7: the first reading is kept, 4; 5 of the refusals; else the losses
unfoldable pub frame_loss_numbers : LossSession → Readings → FrameTold
frame_loss_numbers s r =
    choose (
    (not (session.well_formed s), refused 2)
    ∷ (eqb s.kept 0, plain 4)
    ∷ (eqb s.intervals most_intervals, refused 5)
    ∷ [])
    (tell_frame 0 0 5 0 (loss_on near s.last r) (loss_on far s.last r) absent absent absent)

-- rules 1, 3 and 5: a service frame passes, 1; a CCM of a lower level is D2; a CCM, AIS or LCK is taken in, 2
abbrev pub change_numbers : State → Change → FrameTold
change_numbers s Sent = plain 1
change_numbers s Received = plain 1
change_numbers s UnexpectedLevel = dropped 2
change_numbers s (Told signal) = plain 2
change_numbers s (Reading txf rxf txb) = frame_loss_numbers s.session (readings txf rxf txb s.received)

-- rule 6: refusal 3, or a reply and its length, 3; that a request is cut off was found before, D5
abbrev pub reply_numbers : ℕ → List ℕ → List ℕ → List ℕ → FrameTold
reply_numbers fixed request reply buffer =
    choose ((cut_off fixed request, dropped 5) ∷ (no_room reply buffer, refused 3) ∷ [])
    (tell_frame 0 0 3 (length reply) absent absent absent absent absent)

-- rule 8: D7, D8, the two-way delay, 6, or all three, 7
abbrev pub frame_delay_numbers : Result DelayValues NoDelay → FrameTold
frame_delay_numbers (Err delay.BadStamp) = dropped 7
frame_delay_numbers (Err delay.TooLarge) = dropped 8
frame_delay_numbers (Ok (delays.TwoWay twoway)) = tell_frame 0 0 6 0 absent absent twoway absent absent
frame_delay_numbers (Ok (delays.AllWays twoway onewayfar onewaynear)) = tell_frame 0 0 7 0 absent absent twoway onewayfar onewaynear

abbrev pub decision_numbers : State → List ℕ → Stamp → Stamp → List ℕ → Decision → FrameTold
decision_numbers s f receive transmit buffer (Drops drop) = dropped (drop_of drop)
decision_numbers s f receive transmit buffer Passes = plain 1
decision_numbers s f receive transmit buffer (Changes change) = change_numbers s change
decision_numbers s f receive transmit buffer (Replies request) =
    reply_numbers (fixed_for request) f (reply_for s f receive transmit request) buffer
decision_numbers s f receive transmit buffer (Delays answer) = frame_delay_numbers answer

-- 2, 1, 6, then what is decided
unfoldable pub frame_numbers : State → Side → List ℕ → Stamp → Stamp → List ℕ → FrameTold
frame_numbers s side f receive transmit buffer =
    choose (
    (not (well_formed s), refused 2)
    ∷ (not (length_good f), refused 1)
    ∷ (not (good receive && good transmit), refused 6)
    ∷ [])
    (decision_numbers s f receive transmit buffer (decide_of s.settings side f receive))

-- the numbers that a frame is answered with are those that a chain of tests in numbers alone says
pub record FramesTold : Type 0 where
  pub agree : (s : State) (side : Side) (f : List ℕ) (receive transmit : Stamp) (buffer : List ℕ)
      → frame_told (frame_of s side f receive transmit buffer).answer ≡ frame_numbers s side f receive transmit buffer
