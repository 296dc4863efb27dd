-- Demand 2 of the order, of any box: what it reads, passes, drops, answers, sends and raises is what the paper says, line by line (`Said`,
-- crates/paper_said); and a message that it builds reads back as the fields it was built from. Definitions and the statement only.
use Rattle.std.specs.Prelude.{ℕ, ◌^◌, ◌≤◌, ◌<◌, ◌≡◌, List, length}
use Rattle.base_laws.specs.Lists.{part}
use Rattle.state_settings.specs.Settings.{Settings, slots, Shaped}
use Rattle.base_stamp.specs.declared.Stamp.{Stamp}
use Rattle.base_stamp.specs.Stamps.{Wire}
use Rattle.state_view.specs.State.{State}
use Rattle.state_view.specs.Changed.{lowered}
use Rattle.frame_loopback_alarm.specs.Fixed.{transaction_of}
use Rattle.frame_measures.specs.Measures.{loss_of, delay_of}
use Rattle.paper_said.specs.Calls.{Arrival, Call, frame, tick, send_LMM, send_DMM, written, OnWire, Box}
use Rattle.paper_said.specs.Cases.{opcode, OwnLevel}
use Rattle.paper_said.specs.Drops.{Sound}
use Rattle.paper_said.specs.Standing.{Flag, Stands}
use Rattle.paper_said.specs.Started.{Settable}
use Rattle.paper_said.specs.Made.{ccm_values, Reply}
use Rattle.paper_said.specs.Ours.{Follows}
use Rattle.message_readback.specs.Sent.{CcmBack, LmmBack, DmmBack}
use Rattle.message_readback.specs.Replies.{Answers}
use Rattle.paper_loss.specs.Runs.{Each}
use Rattle.paper_time.specs.Runs.{since}

-- a state that fits in memory: addresses, MEG ID and slots have their lengths, counts have 32 bits
pub record InMemory (s : State) : Type 0 where
  pub settings : Shaped slots s.settings
  pub sent : s.sent < 2 ^ 32
  pub received : s.received < 2 ^ 32

-- a CCM was sent by a tick of the state s: it reads back as our settings, and RDI is on exactly where a condition is active after the
-- lowering
pub record CcmSent (s : State) (buffer : List ℕ) : Type 0 where
  pub rdi : ℕ
  pub says : Flag (Stands (lowered s)) rdi
  pub back : CcmBack s.settings.own s.settings.meg (ccm_values s rdi) (part 0 89 buffer)

-- a reply reads back as the request with what differs: our two counts in an LMR, the caller's two stamps in a DMR
pub data ReplyBack (s : State) (a : Arrival) (f : List ℕ) : Type 0 where
  lbr : opcode a ≡ 3 → Answers s.settings.own a.octets 2 f → transaction_of f ≡ transaction_of a.octets → ReplyBack s a f
  lmr : opcode a ≡ 43 → Answers s.settings.own a.octets 42 f
      → loss_of f ≡ record { txfcf = (loss_of a.octets).txfcf; rxfcf = s.received; txfcb = s.sent } → ReplyBack s a f
  dmr : opcode a ≡ 47 → Answers s.settings.own a.octets 46 f
      → delay_of f ≡ record { txtimestampf = (delay_of a.octets).txtimestampf; rxtimestampf = a.receive; txtimestampb = a.transmit } → ReplyBack s a f

pub record Demand2 (B : Box) : Type 0 where
  pub follows : Follows B
  -- what is written reads back as the fields of the state it was sent from; along a run since a setting every state fits in memory
  pub in_memory : (s : State) (t : Settings) (cs : List Call) → Settable t → Each OnWire cs → InMemory (since B s t cs)
  pub ccm : (s : State) (b : List ℕ) (n : ℕ) → InMemory s → (B s (tick b)).answer ≡ written n → (n ≡ 89) × CcmSent s (B s (tick b)).buffer
  pub lmm : (s : State) (b : List ℕ) (n : ℕ) → InMemory s → (B s (send_LMM b)).answer ≡ written n
      → (n ≡ 31) × LmmBack s.settings.losspeer s.settings.own s.settings.level s.sent (part 0 31 (B s (send_LMM b)).buffer)
  pub dmm : (s : State) (x : Stamp) (b : List ℕ) (n : ℕ) → InMemory s → Wire x → (B s (send_DMM x b)).answer ≡ written n
      → (n ≡ 51) × DmmBack s.settings.losspeer s.settings.own s.settings.level x (part 0 51 (B s (send_DMM x b)).buffer)
  pub reply : (s : State) (a : Arrival) (octets : List ℕ) → InMemory s → OnWire (frame a) → OwnLevel s a → Sound s a → Reply s a octets
      → length octets ≤ length a.buffer
      → ((B s (frame a)).answer ≡ written (length octets)) × ReplyBack s a (part 0 (length octets) (B s (frame a)).buffer)
