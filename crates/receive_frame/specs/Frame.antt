-- What a frame leaves: the answer, the state, the buffer. The paper, "Refusals": in order 2, 1, 6, the frame rules, then 3 or 5; a refused
-- call leaves state and buffers unchanged. Definitions only.
use Rattle.std.specs.Prelude.{ℕ, ◌&&◌, not, List, [], ◌∷◌, Result, Err}
use Rattle.base_laws.specs.Tests.{choose}
use Rattle.base_stamp.specs.declared.Stamp.{Stamp}
use Rattle.base_stamp.specs.Stamps.{good}
use Rattle.frame_head.specs.Head.{length_good}
use Rattle.state_view.specs.State.{State}
use Rattle.state_view.specs.WellFormed.{well_formed}
use Rattle.receive_answer.specs.declared.FrameRefusal.TheVariants.{NotWellFormed, BadLength, BadStamp}
use Rattle.receive_class.specs.declared.Side.{Side}
use Rattle.receive_decide.specs.Decide.{decide_of}
use Rattle.base_laws.specs.Ended.{Ended, ended}
use Rattle.receive_carry_out.specs.CarryOut.{carried_out}
use Rattle.receive_answer.specs.declared.FrameRefusal.{FrameRefusal}
use Rattle.receive_answer.specs.declared.FrameDone.{FrameDone}

unfoldable pub frame_of : State → Side → List ℕ → Stamp → Stamp → List ℕ → Ended State (Result FrameDone FrameRefusal)
frame_of s side f receive transmit buffer =
    choose (
    (not (well_formed s), ended (Err NotWellFormed) s buffer)
    ∷ (not (length_good f), ended (Err BadLength) s buffer)
    ∷ (not (good receive && good transmit), ended (Err BadStamp) s buffer)
    ∷ [])
    (carried_out s f receive transmit buffer (decide_of s.settings side f receive))
