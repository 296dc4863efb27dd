-- The calls of a box and what each is answered, in the paper's words: nothing here belongs to one box or another. Definitions only.
use Rattle.std.specs.Prelude.{ℕ, ◌≡◌, List, [], ℤ}
use Rattle.base_octets.specs.Octets.{Octets}
use Rattle.state_settings.specs.Settings.{slots, Settings, Shaped}
use Rattle.state_view.specs.State.{State}
use Rattle.base_stamp.specs.Stamps.{Wire}
use Rattle.base_stamp.specs.declared.Stamp.{Stamp}

-- where a frame comes from: active is the link, passive the equipment on our own end
pub data ArrivalSide : Type 0 where
  active : ArrivalSide
  passive : ArrivalSide

-- a frame as it comes: from which side, its octets, the caller's two stamps, and the buffer for a reply
pub record Arrival : Type 0 where
  pub side : ArrivalSide
  pub octets : List ℕ
  pub receive : Stamp
  pub transmit : Stamp
  pub buffer : List ℕ

pub data Call : Type 0 where
  new_setting : Settings → Call
  frame : Arrival → Call
  tick : List ℕ → Call
  clear : Call
  send_LMM : List ℕ → Call
  send_DMM : Stamp → List ℕ → Call
  conditions : Call

-- what is active, 1 or 0: for each slot loss of continuity and RDI, and the six others
pub record Raised : Type 0 where
  pub lost : List ℕ
  pub rdi : List ℕ
  pub mismerge : ℕ
  pub unexpected_mep : ℕ
  pub unexpected_period : ℕ
  pub unexpected_level : ℕ
  pub ais : ℕ
  pub lck : ℕ

pub data Answer : Type 0 where
  -- a refusal by its number, a drop by its
  refused : ℕ → Answer
  dropped : ℕ → Answer
  -- a frame passes, or is taken in
  passed : Answer
  taken : Answer
  -- a message of so many octets is in the buffer
  written : ℕ → Answer
  -- near and far loss
  loss : ℤ → ℤ → Answer
  -- two-way delay; two-way, one-way far and one-way near
  delay : ℤ → Answer
  delays : ℤ → ℤ → ℤ → Answer
  -- a setting is taken, a tick has passed, a session is cleared
  done : Answer
  standing : Raised → Answer

-- what a call returns by value beside its answer: of a new setting a state, of every other call nothing
pub data HandedOut : Type 0 where
  nothing : HandedOut
  a_state : State → HandedOut

-- all that a call leaves: the answer; the state that the caller holds afterwards; the buffer that was passed in (none for a call without
-- one); what it returns
pub record Outcome : Type 0 where
  pub answer : Answer
  pub state : State
  pub buffer : List ℕ
  pub out : HandedOut

abbrev pub leaves : Answer → State → List ℕ → Outcome
leaves answer state buffer = record { answer = answer; state = state; buffer = buffer; out = nothing }

-- a new setting, which has no buffer
abbrev pub hands_out : Answer → State → State → Outcome
hands_out answer state out = record { answer = answer; state = state; buffer = []; out = a_state out }

-- ── what a call brings has the width that it is passed in with ──

-- settings have the lengths of their arrays, and octets are below 256
pub record FromArrays (t : Settings) : Type 0 where
  pub shape : Shaped slots t
  pub own : Octets t.own
  pub losspeer : Octets t.losspeer
  pub meg : Octets t.meg

-- a frame has octets, and both parts of a stamp have 32 bits
pub record FromWire (a : Arrival) : Type 0 where
  pub octets : Octets a.octets
  pub receive : Wire a.receive
  pub transmit : Wire a.transmit

abbrev pub OnWire : Call → Type 0
OnWire (new_setting t) = FromArrays t
OnWire (frame a) = FromWire a
OnWire (tick b) = Unit
OnWire clear = Unit
OnWire (send_LMM b) = Unit
OnWire (send_DMM t b) = Wire t
OnWire conditions = Unit

-- any call but a new setting, which is given no state
abbrev pub NoSetting : Call → Type 0
NoSetting c = (t : Settings) → c ≡ new_setting t → ⊥

-- a box is what it leaves of any state at any call
abbrev pub Box : Type 0
Box = State → Call → Outcome
