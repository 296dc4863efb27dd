-- The answer to a request. The paper, rule 6: LBM, LMM and DMM are answered with LBR, LMR and DMR; the LMR gets our received and sent
-- counts, the DMR the caller's two stamps; refusal 3 where the buffer is shorter. Definitions only.
use Rattle.std.specs.Prelude.{ℕ, List, Result, Ok, Err}
use Rattle.base_stamp.specs.declared.Stamp.{Stamp}
use Rattle.state_view.specs.State.{State}
use Rattle.receive_answer.specs.declared.Drop.TheVariants as drop
use Rattle.receive_answer.specs.declared.FrameRefusal.{FrameRefusal}
use Rattle.receive_answer.specs.declared.FrameDone.{FrameDone}
use Rattle.receive_answer.specs.declared.FrameRefusal.TheVariants as answer
use Rattle.receive_answer.specs.declared.FrameDone.TheVariants as did
use Rattle.message_reply.specs.declared.ReplyRefusal.{ReplyRefusal}
use Rattle.message_reply.specs.declared.ReplyRefusal.TheVariants.{CutOff, NoRoom}
use Rattle.message_lbr.specs.Lbr.{lbr_octets}
use Rattle.message_lmr.specs.Lmr.{lmr_octets}
use Rattle.message_dmr.specs.Dmr.{dmr_octets}
use Rattle.message_reply.specs.Replied.{replied_of, left_of}
use Rattle.receive_respond.specs.declared.Request.{Request}
use Rattle.receive_respond.specs.declared.Request.TheVariants.{Loopback, Loss, Delay}

-- the octets of a request's fixed part, as the paper's table has them
abbrev pub fixed_for : Request → ℕ
fixed_for Loopback = 4
fixed_for Loss = 12
fixed_for Delay = 32

-- the reply, from the state, the request and the caller's two stamps
abbrev pub reply_for : State → List ℕ → Stamp → Stamp → Request → List ℕ
reply_for s f receive transmit Loopback = lbr_octets s.settings.own f
reply_for s f receive transmit Loss = lmr_octets s.settings.own s.received s.sent f
reply_for s f receive transmit Delay = dmr_octets s.settings.own receive transmit f

unfoldable pub answer_for : Result ℕ ReplyRefusal → Result FrameDone FrameRefusal
answer_for (Err CutOff) = Ok (did.Dropped drop.CutOff)
answer_for (Err NoRoom) = Err answer.NoRoom
answer_for (Ok n) = Ok (did.Replied n)

-- what the frame is answered, and the buffer after it
unfoldable pub responded_of : State → List ℕ → Stamp → Stamp → List ℕ → Request → Result FrameDone FrameRefusal
responded_of s f receive transmit buffer request = answer_for (replied_of (fixed_for request) f (reply_for s f receive transmit request) buffer)

unfoldable pub left_after : State → List ℕ → Stamp → Stamp → List ℕ → Request → List ℕ
left_after s f receive transmit buffer request = left_of (fixed_for request) f (reply_for s f receive transmit request) buffer
