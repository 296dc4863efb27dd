-- The statement of specs/Numbers.antt: each answer is told as the chain in numbers has it. Assumes nothing.
use Prim.Native.Nat.{ℕ}
use mathlib.Core.Path.{◌≡◌, refl, ap, ◌∙◌}
use mathlib.Core.Bool.{◌&&◌, not}
use mathlib.Core.List.{List, [], ◌∷◌}
use lib.ListN.{length}
use Rattle.std.specs.Prelude.{Result, Ok, Err}
use Rattle.base_laws.specs.Ended.{Ended}
use Rattle.base_laws.specs.Tests.{choose}
use Rattle.base_laws.proofs.Tests.{choose-map}
use Rattle.loss_session.specs.declared.Readings.{Readings}
use Rattle.loss_session.specs.declared.LossSession.{LossSession}
use Rattle.loss_reading.specs.declared.Updated.{Updated}
use Rattle.loss_reading.specs.Reading.{after_reading}
use Rattle.state_view.specs.State.{State}
use Rattle.state_view.specs.WellFormed.{well_formed}
use Rattle.base_stamp.specs.declared.Stamp.{Stamp}
use Rattle.base_stamp.specs.Stamps.{good}
use Rattle.receive_delay.specs.declared.NoDelay.{NoDelay}
use Rattle.receive_delay.specs.declared.DelayValues.{DelayValues}
use Rattle.receive_delay.specs.declared.NoDelay.TheVariants as delay
use Rattle.receive_delay.specs.declared.DelayValues.TheVariants as delays
use Rattle.frame_head.specs.Head.{length_good}
use Rattle.message_parts.specs.Buffer.{no_room}
use Rattle.message_reply.specs.declared.ReplyRefusal.{ReplyRefusal}
use Rattle.message_reply.specs.declared.ReplyRefusal.TheVariants.{CutOff, NoRoom}
use Rattle.message_reply.specs.Replied.{cut_off, replied_of}
use Rattle.receive_answer.specs.declared.FrameTold.{FrameTold}
use Rattle.receive_answer.specs.Told.{drop_of, refused, frame_told}
use Rattle.receive_class.specs.declared.Side.{Side}
use Rattle.receive_change.specs.Change.{answer_of, applied}
use Rattle.receive_change.specs.declared.Change.{Change}
use Rattle.receive_change.specs.declared.Change.TheVariants.{Sent, Received, UnexpectedLevel, Told, Reading}
use Rattle.receive_respond.specs.Respond.{fixed_for, reply_for, answer_for, responded_of}
use Rattle.receive_carry_out.specs.CarryOut.{delay_answer, carried_out}
use Rattle.receive_handle.specs.declared.Decision.{Decision}
use Rattle.receive_handle.specs.declared.Decision.TheVariants.{Drops, Passes, Changes, Replies, Delays}
use Rattle.receive_decide.specs.Decide.{decide_of}
use Rattle.receive_frame.specs.Frame.{frame_of}
use Rattle.receive_frame.specs.Numbers.{frame_loss_numbers, change_numbers, reply_numbers, frame_delay_numbers, decision_numbers}
use Rattle.receive_frame.specs.Numbers.{frame_numbers, FramesTold}
use Rattle.receive_answer.specs.declared.FrameRefusal.{FrameRefusal}
use Rattle.receive_answer.specs.declared.FrameDone.{FrameDone}

loss-told : (s : LossSession) (r : Readings) → frame_told (answer_of (after_reading s r).answer) ≡ frame_loss_numbers s r
unfolding after_reading frame_loss_numbers answer_of frame_told
loss-told s r = choose-map (λ (u : Updated). frame_told (answer_of u.answer)) _ _

change_told : (s : State) (change : Change) → frame_told (applied s change).answer ≡ change_numbers s change
unfolding applied frame_told drop_of
change_told s Sent = refl
change_told s Received = refl
change_told s UnexpectedLevel = refl
change_told s (Told signal) = refl
change_told s (Reading txf rxf txb) = loss-told s.session _

reply-told : (fixed : ℕ) (request reply buffer : List ℕ)
    → frame_told (answer_for (replied_of fixed request reply buffer)) ≡ reply_numbers fixed request reply buffer
unfolding answer_for frame_told drop_of
reply-told fixed request reply buffer =
    choose-map (λ (x : Result ℕ ReplyRefusal). frame_told (answer_for x)) ((cut_off fixed request, Err CutOff) ∷ (no_room reply buffer, Err NoRoom) ∷ [])
    (Ok (length reply))

delay-told : (x : Result DelayValues NoDelay) → frame_told (delay_answer x) ≡ frame_delay_numbers x
unfolding delay_answer frame_told drop_of
delay-told (Err delay.BadStamp) = refl
delay-told (Err delay.TooLarge) = refl
delay-told (Ok (delays.TwoWay twoway)) = refl
delay-told (Ok (delays.AllWays twoway far near)) = refl

module _ (s : State) (f : List ℕ) (receive transmit : Stamp) (buffer : List ℕ) where
  decision-told : (d : Decision) → frame_told (carried_out s f receive transmit buffer d).answer
      ≡ decision_numbers s f receive transmit buffer d
  unfolding carried_out frame_told responded_of
  decision-told (Drops drop) = refl
  decision-told Passes = refl
  decision-told (Changes change) = change_told s change
  decision-told (Replies request) = reply-told (fixed_for request) f (reply_for s f receive transmit request) buffer
  decision-told (Delays answer) = delay-told answer

pub agree : (s : State) (side : Side) (f : List ℕ) (receive transmit : Stamp) (buffer : List ℕ)
    → frame_told (frame_of s side f receive transmit buffer).answer ≡ frame_numbers s side f receive transmit buffer
unfolding frame_of frame_numbers frame_told
agree s side f receive transmit buffer =
    choose-map (λ (x : Ended State (Result FrameDone FrameRefusal)). frame_told x.answer) _ _
    ∙ ap
    (λ (x : FrameTold).
    choose (
    (not (well_formed s), refused 2)
    ∷ (not (length_good f), refused 1)
    ∷ (not (good receive && good transmit), refused 6)
    ∷ [])
    x)
    (decision-told s f receive transmit buffer (decide_of s.settings side f receive))

pub frames_told : FramesTold
frames_told = record { agree = agree }
