-- What a change leaves, and what the frame is answered. The paper, rule 1: a service frame adds one to its side's count, wrapping to 0
-- after 4,294,967,295; rule 3: D2, and the unexpected-level timer is set; rule 5; rule 7: readings are the reply's three counts and our
-- received count. Definitions only.
use Rattle.loss_reading.specs.Losses.{losses_of}
use Rattle.std.specs.Prelude.{ℕ, ◌+◌, ◌%◌, ◌^◌, [], Result, Ok, Err, Option, Some, None}
use Rattle.base_laws.specs.Ended.{Ended, ended}
use Rattle.loss_reading.specs.declared.LossRefusal.{LossRefusal}
use Rattle.loss_reading.specs.declared.Losses.{Losses}
use Rattle.loss_reading.specs.declared.LossRefusal.TheVariants as loss
use Rattle.loss_reading.specs.declared.Updated.{Updated}
use Rattle.loss_session.specs.Session.{readings}
use Rattle.loss_reading.specs.Reading.{after_reading}
use Rattle.state_view.specs.State.{State}
use Rattle.state_view.specs.Changed.{put, with_session}
use Rattle.state_view.specs.Changed as word
use Rattle.state_view.specs.WellFormed.{own_most}
use Rattle.receive_answer.specs.declared.Drop.TheVariants.{Level}
use Rattle.receive_answer.specs.declared.FrameRefusal.{FrameRefusal}
use Rattle.receive_answer.specs.declared.FrameDone.{FrameDone}
use Rattle.receive_answer.specs.declared.FrameRefusal.TheVariants.{NotWellFormed, Full}
use Rattle.receive_answer.specs.declared.FrameDone.TheVariants.{Dropped, Passed, Taken, First, Measured}
use Rattle.receive_signals.specs.Signals.{signalled}
use Rattle.receive_change.specs.declared.Change.{Change}
use Rattle.receive_change.specs.declared.Change.TheVariants.{Sent, Received, UnexpectedLevel, Told, Reading}

unfoldable pub answer_of : Result (Option Losses) LossRefusal → Result FrameDone FrameRefusal
answer_of (Err loss.NotWellFormed) = Err NotWellFormed
answer_of (Err loss.Full) = Err Full
answer_of (Ok None) = Ok First
answer_of (Ok (Some l)) = Ok (Measured l.near l.far)

-- an updated session, and its answer
abbrev pub taken : State → Updated → Ended State (Result FrameDone FrameRefusal)
taken s u = ended (answer_of u.answer) (with_session u.session s) []

abbrev pub read_taken : State → ℕ → ℕ → ℕ → Ended State (Result FrameDone FrameRefusal)
read_taken s txf rxf txb = taken s (after_reading s.session (readings txf rxf txb s.received))

-- one more frame, wrapping
abbrev pub one_more : ℕ → ℕ
one_more n = (n + 1) % 2 ^ 32

unfoldable pub applied : State → Change → Ended State (Result FrameDone FrameRefusal)
applied s Sent = ended (Ok Passed) (put word.sent (one_more s.sent) s) []
applied s Received = ended (Ok Passed) (put word.received (one_more s.received) s) []
applied s UnexpectedLevel = ended (Ok (Dropped Level)) (put word.unexpected_level (own_most s) s) []
applied s (Told signal) = ended (Ok Taken) (signalled s signal) []
applied s (Reading txf rxf txb) = read_taken s txf rxf txb
