-- What holds of every box that follows the paper: the paper says something of every call, refusals by the table, what refusals and drops
-- leave, that a state stays well formed, and that OAM frames are never counted. Definitions and the statements only.
use Rattle.std.specs.Prelude.{ℕ, ◌≡◌, ◌↔◌}
use Rattle.state_settings.specs.Settings.{Settings}
use Rattle.state_settings.specs.Valid.{Valid}
use Rattle.state_view.specs.State.{State}
use Rattle.state_view.specs.Changed.{put}
use Rattle.state_view.specs.Changed as word
use Rattle.state_view.specs.WellFormed.{WellFormed}
use Rattle.frame_head.specs.Head.{ether_type_of}
use Rattle.frame_ccm.specs.Ccm.{ccm_in, meg_in}
use Rattle.paper_said.specs.Calls.{Arrival, Call, new_setting, frame, Answer, refused, dropped, taken, nothing, Outcome, leaves, hands_out, OnWire, NoSetting, Box}
use Rattle.paper_said.specs.Cases.{pdu, hold}
use Rattle.paper_said.specs.Taken.{OwnCcm}
use Rattle.paper_said.specs.Started.{AllZero}
use Rattle.paper_said.specs.Said.{Said}
use Rattle.paper_said.specs.Ours.{Follows}
use Rattle.paper_promised.specs.Refusals.{Refusal, Remembered, handed}

-- ── what is said of a box that follows the paper ──

pub record Promised (B : Box) : Type 0 where
  -- each number exactly where its line holds and no earlier one of the order does; a number that a call's lines do not have is never given
  pub refuses : (s : State) (c : Call) (n : ℕ) → OnWire c → ((B s c).answer ≡ refused n) ↔ Refusal s c n
  -- a refused call leaves state and buffer the same, whatever call it is and whatever they held
  pub left : (s : State) (c : Call) (n : ℕ) → OnWire c → (B s c).answer ≡ refused n → ((B s c).state ≡ s) × ((B s c).buffer ≡ handed c)
  -- only a new setting returns a state; a refused one returns the all-zero state
  pub hands_nothing : (s : State) (c : Call) → OnWire c → NoSetting c → (B s c).out ≡ nothing
  pub zeros : (s : State) (t : Settings) → OnWire (new_setting t) → (Valid t → ⊥)
      → (zero : State) × AllZero zero × (B s (new_setting t) ≡ hands_out (refused 4) s zero)
  -- a drop writes nothing, and changes nothing but the timer of rule 3, and that only there
  pub drops : (s : State) (c : Call) (n : ℕ) → OnWire c → (B s c).answer ≡ dropped n → (Remembered s c → ⊥) → ((B s c).state ≡ s) × ((B s c).buffer ≡ handed c)
  pub remembers : (s : State) (c : Call) → OnWire c → Remembered s c → B s c ≡ leaves (dropped 2) (put word.unexpected_level (hold s) s) (handed c)
  -- a well-formed state stays so, whatever the call
  pub stays : (s : State) (c : Call) → OnWire c → WellFormed s → WellFormed (B s c).state
  -- OAM frames never change the service counts
  pub uncounted : (s : State) (a : Arrival) → OnWire (frame a) → ether_type_of a.octets ≡ 0x8902 → ((B s (frame a)).state.sent ≡ s.sent) × ((B s (frame a)).state.received ≡ s.received)
  -- D8 is never given: no stamps of the wire are so far apart
  pub never_d8 : (s : State) (a : Arrival) → OnWire (frame a) → (B s (frame a)).answer ≡ dropped 8 → ⊥
  -- a CCM of our MEG with our own MEP ID is an unexpected MEP
  pub own_id : (s : State) (a : Arrival) → OnWire (frame a) → OwnCcm s a → meg_in (pdu a) ≡ s.settings.meg → (ccm_in (pdu a)).mep ≡ s.settings.mep
      → B s (frame a) ≡ leaves taken (put word.unexpected_mep (hold s) s) a.buffer

-- the paper says one thing of every call; all boxes that follow it are one box, and keep the tables on refusals and on what they leave
pub record Promises : Type 0 where
  -- the paper says something of every call, and never two things
  pub says : (s : State) (c : Call) → OnWire c → (o : Outcome) × Said s c o
  pub agrees : (s : State) (c : Call) (o p : Outcome) → OnWire c → Said s c o → Said s c p → o ≡ p
  -- so two boxes that follow it leave the same of every state at every call
  pub same_box : (B C : Box) → Follows B → Follows C → (s : State) (c : Call) → OnWire c → B s c ≡ C s c
  -- and all of the above holds of each of them
  pub kept : (B : Box) → Follows B → Promised B

-- ── boxes that do not follow the paper, though each may do all that it should at a new setting and with a bad state ──

-- no box that refuses every call but a new setting, gives all of them one answer, or changes nothing at any of them follows the paper
pub record ShutOut : Type 0 where
  -- one that refuses every other call
  pub refuses_all : (B : Box) → Follows B
      → ((s : State) (c : Call) → WellFormed s → NoSetting c → (n : ℕ) × ((B s c).answer ≡ refused n)) → ⊥
  -- one that gives every other call the same answer, whichever it is
  pub fixed : (B : Box) (x : Answer) → Follows B → ((s : State) (c : Call) → WellFormed s → NoSetting c → (B s c).answer ≡ x) → ⊥
  -- one that changes nothing at any other call
  pub touches_nothing : (B : Box) → Follows B → ((s : State) (c : Call) → WellFormed s → NoSetting c → (B s c).state ≡ s) → ⊥
