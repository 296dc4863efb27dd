-- The paper's reasons to drop a frame of our level, D3 to D6, and what passes them. Rule 4. Conditions only.
use Rattle.std.specs.Prelude.{ℕ, ◌≤◌, ◌<◌, ◌≡◌, List, [], ◌∷◌, drop}
use Rattle.state_settings.specs.Valid.{group_bit}
use Rattle.state_view.specs.State.{State}
use Rattle.frame_tlvs.specs.Tlvs.{Tlvs}
use Rattle.frame_head.specs.Head.{destination_of, source_of, flags_of, offset_of, start_of}
use Rattle.frame_message.specs.Message.{period_code}
use Rattle.frame_multicast.specs.Multicast.{multicast_of}
use Rattle.paper_said.specs.Calls.{Arrival}
use Rattle.paper_said.specs.Cases.{pdu, opcode, level, OneOf}

-- ── the drops of rule 4 ──

-- the eight opcodes that a box handles, each with the offset that the table of PDUs gives it
pub data Handled : ℕ → ℕ → Type 0 where
  ccm : Handled 1 70
  lbm : Handled 3 4
  ais : Handled 33 0
  lck : Handled 35 0
  lmr : Handled 42 12
  lmm : Handled 43 12
  dmr : Handled 46 32
  dmm : Handled 47 32

-- D4: the frame's offset is too low for its opcode
pub record D4 (a : Arrival) : Type 0 where
  pub least : ℕ
  pub handled : Handled (opcode a) least
  pub below : offset_of (pdu a) < least

-- D5: from the frame's own offset on there is no run of TLVs with an end
abbrev pub D5 : Arrival → Type 0
D5 a = (ts : List (ℕ × List ℕ)) → Tlvs (drop (start_of (pdu a)) (pdu a)) ts → ⊥

-- a frame may go to our own address, and with these six opcodes to the multicast address of its level
pub data GoodDestination (s : State) (a : Arrival) : Type 0 where
  own : destination_of a.octets ≡ s.settings.own → GoodDestination s a
  group : OneOf (opcode a) (1 ∷ 3 ∷ 33 ∷ 35 ∷ 43 ∷ 47 ∷ []) → destination_of a.octets ≡ multicast_of (level a) → GoodDestination s a

-- D6: no good destination; a request from a group's address; a loss reply from another than the loss peer
pub data D6 (s : State) (a : Arrival) : Type 0 where
  destination : (GoodDestination s a → ⊥) → D6 s a
  group_source : OneOf (opcode a) (3 ∷ 43 ∷ 47 ∷ []) → group_bit (source_of a.octets) ≡ 1 → D6 s a
  stranger : opcode a ≡ 42 → (source_of a.octets ≡ s.settings.losspeer → ⊥) → D6 s a

-- handled, and none of D4, D5 and D6
pub record Sound (s : State) (a : Arrival) : Type 0 where
  pub least : ℕ
  pub handled : Handled (opcode a) least
  pub offset : least ≤ offset_of (pdu a)
  pub tlvs : D5 a → ⊥
  pub destination : D6 s a → ⊥

-- the code in the low three flag bits
abbrev pub code : Arrival → ℕ
code a = period_code (flags_of (pdu a))

-- a CCM that passes D4 to D7, of any level
pub record GoodCcm (s : State) (a : Arrival) : Type 0 where
  pub sound : Sound s a
  pub ccm : opcode a ≡ 1
  pub period : code a ≡ 0 → ⊥
