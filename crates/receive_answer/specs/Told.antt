-- The paper's numbers for each case of a frame's answer. The paper, "Refusals": the table of refusals, the list of drops; any other value
-- beside a refusal or a drop is 0; rule 7: the first reading's two results are 0. Definitions and the statement only.
use Rattle.std.specs.Prelude.{ℕ, ◌≡◌, ℤ, pos, Result, Ok, Err}
use Rattle.receive_answer.specs.declared.Drop.{Drop}
use Rattle.receive_answer.specs.declared.Drop.TheVariants.{Short, Level, Opcode, Offset, CutOff, Destination, Value, TooLarge}
use Rattle.receive_answer.specs.declared.FrameRefusal.{FrameRefusal}
use Rattle.receive_answer.specs.declared.FrameDone.{FrameDone}
use Rattle.receive_answer.specs.declared.FrameRefusal.TheVariants.{NotWellFormed, BadLength, BadStamp, NoRoom, Full}
use Rattle.receive_answer.specs.declared.FrameDone.TheVariants.{Dropped, Passed, Taken, Replied, First, Measured, TwoWay, AllWays}
use Rattle.receive_answer.specs.declared.FrameTold.{FrameTold}

unfoldable pub drop_of : Drop → ℕ
drop_of Short = 1
drop_of Level = 2
drop_of Opcode = 3
drop_of Offset = 4
drop_of CutOff = 5
drop_of Destination = 6
drop_of Value = 7
drop_of TooLarge = 8

-- a value that an answer does not have
abbrev pub absent : ℤ
absent = pos 0

-- refusal, drop, what was done (a number of ours, 0 beside a refusal or a drop), length, near and far loss, two-way delay, one-way far and
-- near
abbrev pub tell_frame : ℕ → ℕ → ℕ → ℕ → ℤ → ℤ → ℤ → ℤ → ℤ → FrameTold
tell_frame refusal drop done length near far twoway onewayfar onewaynear = record {
  refusal = refusal;
  drop = drop;
  done = done;
  length = length;
  near = near;
  far = far;
  twoway = twoway;
  onewayfar = onewayfar;
  onewaynear = onewaynear;
}

abbrev pub refused : ℕ → FrameTold
refused n = tell_frame n 0 0 0 absent absent absent absent absent

abbrev pub dropped : ℕ → FrameTold
dropped n = tell_frame 0 n 0 0 absent absent absent absent absent

unfoldable pub frame_told : Result FrameDone FrameRefusal → FrameTold
frame_told (Err NotWellFormed) = refused 2
frame_told (Err BadLength) = refused 1
frame_told (Err BadStamp) = refused 6
frame_told (Err NoRoom) = refused 3
frame_told (Err Full) = refused 5
frame_told (Ok (Dropped drop)) = dropped (drop_of drop)
frame_told (Ok Passed) = tell_frame 0 0 1 0 absent absent absent absent absent
frame_told (Ok Taken) = tell_frame 0 0 2 0 absent absent absent absent absent
frame_told (Ok (Replied n)) = tell_frame 0 0 3 n absent absent absent absent absent
frame_told (Ok First) = tell_frame 0 0 4 0 absent absent absent absent absent
frame_told (Ok (Measured near far)) = tell_frame 0 0 5 0 near far absent absent absent
frame_told (Ok (TwoWay twoway)) = tell_frame 0 0 6 0 absent absent twoway absent absent
frame_told (Ok (AllWays twoway far near)) = tell_frame 0 0 7 0 absent absent twoway far near

-- no two answers have the same numbers; beside a refusal, and beside a drop, every other value is 0
pub record FrameNumbers : Type 0 where
  -- no two answers have the same numbers
  pub apart : (a b : Result FrameDone FrameRefusal) → frame_told a ≡ frame_told b → a ≡ b
  -- beside a refusal, and beside a drop, every other value is 0
  pub bare_refusal : (a : Result FrameDone FrameRefusal) → ((frame_told a).refusal ≡ 0 → ⊥) → frame_told a ≡ refused (frame_told a).refusal
  pub bare_drop : (a : Result FrameDone FrameRefusal) → ((frame_told a).drop ≡ 0 → ⊥) → frame_told a ≡ dropped (frame_told a).drop
