-- A call's arguments as C passes them in: a state in its seven arrays, a frame and its side. Definitions only.
use Rattle.std.specs.Prelude.{ℕ, cond, List, eqb}
use Rattle.std.specs.Borrow.{Bor, MutBor}
use Rattle.state_view.specs.State.{State, shown}
use Rattle.state_view.specs.Arguments.{Writes, writes_session, writes_tick, writes_all, Arrays, held, left, left_tick, left_session}
use Rattle.base_stamp.specs.declared.Stamp.{Stamp}
use Rattle.paper_said.specs.Calls.{ArrivalSide, active, passive, Arrival}

-- the state in the arguments of a call that may write w
abbrev pub state_in : (w : Writes) {X : Type 0} → Arrays w X → State
state_in w a = shown (held w a)

-- and those after a frame, a tick and a clear, each of which may write some of the arrays: a before, s afterwards
abbrev pub left_by_frame : {X Y : Type 0} → Arrays writes_all X → Arrays writes_all Y → State
left_by_frame a s = shown (left a s)

abbrev pub left_by_tick : {X Y : Type 0} → Arrays writes_tick X → Arrays writes_tick Y → State
left_by_tick a s = shown (left_tick a s)

abbrev pub left_by_clear : {X Y : Type 0} → Arrays writes_session X → Arrays writes_session Y → State
left_by_clear a s = shown (left_session a s)

-- C names a side by a number: 0 is the active side, any other the passive one
abbrev pub side_by : ℕ → ArrivalSide
side_by n = cond (eqb n 0) active passive

-- a frame as it is passed in after the arrays: its side, its octets, two stamps, the buffer
abbrev pub arrival_in : {X : Type 0} → ℕ × (Bor (List ℕ) × (Stamp × (Stamp × (MutBor (List ℕ) × X)))) → Arrival
arrival_in a =
    let (side, (octets, (receive, (transmit, (buffer, _))))) = a in
    record { side = side_by side; octets = octets.now; receive = receive; transmit = transmit; buffer = buffer.now }
