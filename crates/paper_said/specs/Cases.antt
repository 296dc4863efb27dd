-- How far a frame gets: the refusals that come before its rules, what is counted, and what is an OAM frame of our level. The paper's order,
-- its table of refusals, and rules 1 and 2. Conditions only: nothing here says what a box does.
use Rattle.std.specs.Prelude.{ℕ, ◌≤◌, ◌≡◌, List, ◌∷◌, length}
use Rattle.base_period.specs.Periods.{hold_of}
use Rattle.state_view.specs.State.{State}
use Rattle.state_view.specs.WellFormed.{WellFormed}
use Rattle.base_stamp.specs.declared.Stamp.{Stamp}
use Rattle.frame_head.specs.Head.{ether_type_of, pdu_of, level_of, opcode_of}
use Rattle.paper_said.specs.Calls.{active, Arrival}

-- ── words ──

abbrev pub pdu : Arrival → List ℕ
pdu a = pdu_of a.octets

abbrev pub opcode : Arrival → ℕ
opcode a = opcode_of (pdu a)

abbrev pub level : Arrival → ℕ
level a = level_of (pdu a)

-- the hold time of our own period
abbrev pub hold : State → ℕ
hold s = hold_of s.settings.period

-- a number of a list
pub data OneOf (x : ℕ) : List ℕ → Type 0 where
  here : {l : List ℕ} → OneOf x (x ∷ l)
  there : {y : ℕ} {l : List ℕ} → OneOf x l → OneOf x (y ∷ l)

-- ── refusals ──

-- refusal 1 is due where this does not hold: 14 to 1,514 octets
pub record LengthGood (a : Arrival) : Type 0 where
  pub least : 14 ≤ length a.octets
  pub most : length a.octets ≤ 1514

-- and refusal 6 where this does not: a stamp of less than a second of nanoseconds
abbrev pub StampGood : Stamp → Type 0
StampGood t = t.nanoseconds ≤ 999999999

-- ── how far a frame gets ──

-- none of the refusals 2, 1 and 6
pub record Heeded (s : State) (a : Arrival) : Type 0 where
  pub well : WellFormed s
  pub long : LengthGood a
  pub receive : StampGood a.receive
  pub transmit : StampGood a.transmit

-- which frames are counted: all but OAM frames, and those never
abbrev pub Counted : Arrival → Type 0
Counted a = ether_type_of a.octets ≡ 0x8902 → ⊥

-- an OAM frame, by its EtherType, that has all four octets before a fixed part
pub record Oam (s : State) (a : Arrival) : Type 0 where
  pub heeded : Heeded s a
  pub ether : ether_type_of a.octets ≡ 0x8902
  pub head : 18 ≤ length a.octets

-- from the active side, and of our own level
pub record OwnLevel (s : State) (a : Arrival) : Type 0 where
  pub oam : Oam s a
  pub side : a.side ≡ active
  pub level : level a ≡ s.settings.level
