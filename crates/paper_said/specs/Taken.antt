-- The messages that are taken in: CCMs of our level and whom they come from (rule 5), loss replies (rule 7), delay replies and their stamps
-- (rule 8). Conditions only.
use Rattle.std.specs.Prelude.{ℕ, ◌<◌, ◌^◌, ◌≡◌, ℤ, get_or}
use Rattle.std.specs.Int.Signed.{mag}
use Rattle.state_view.specs.State.{State}
use Rattle.base_stamp.specs.declared.Stamp.{Stamp}
use Rattle.frame_ccm.specs.Ccm.{ccm_in, meg_in}
use Rattle.frame_measures.specs.Measures.{delay_in}
use Rattle.paper_said.specs.Calls.{Arrival}
use Rattle.paper_said.specs.Cases.{pdu, opcode, StampGood, OwnLevel}
use Rattle.paper_said.specs.Drops.{Sound, GoodCcm}

-- ── CCMs of our level ──

-- slot k is used and holds the peer of this MEP ID
pub record PeerAt (s : State) (k id : ℕ) : Type 0 where
  pub used : k < s.settings.count
  pub same : get_or s.settings.ids k 0 ≡ id

-- a good CCM of our level
pub record OwnCcm (s : State) (a : Arrival) : Type 0 where
  pub own : OwnLevel s a
  pub good : GoodCcm s a

-- of our MEG, from the peer in slot k
pub record FromPeer (s : State) (a : Arrival) (k : ℕ) : Type 0 where
  pub ccm : OwnCcm s a
  pub meg : meg_in (pdu a) ≡ s.settings.meg
  pub peer : PeerAt s k (ccm_in (pdu a)).mep

-- ── replies ──

-- a good loss reply of our level, from the loss peer
pub record LossReply (s : State) (a : Arrival) : Type 0 where
  pub own : OwnLevel s a
  pub sound : Sound s a
  pub lmr : opcode a ≡ 42

-- a delay reply of our level that passes D6
pub record DelayReply (s : State) (a : Arrival) : Type 0 where
  pub own : OwnLevel s a
  pub sound : Sound s a
  pub dmr : opcode a ≡ 46

-- ── delays ──

-- a stamp of zeros is none
pub record NotGiven (x : Stamp) : Type 0 where
  pub seconds : x.seconds ≡ 0
  pub nanoseconds : x.nanoseconds ≡ 0

abbrev pub txf : Arrival → Stamp
txf a = (delay_in (pdu a)).txtimestampf

abbrev pub rxf : Arrival → Stamp
rxf a = (delay_in (pdu a)).rxtimestampf

abbrev pub txb : Arrival → Stamp
txb a = (delay_in (pdu a)).txtimestampb

-- the responder gave both of its stamps
pub record Paired (a : Arrival) : Type 0 where
  pub rx : NotGiven (rxf a) → ⊥
  pub tx : NotGiven (txb a) → ⊥

-- D7 of a delay reply: a stamp that it uses is not good, or there is none of its receipt
pub data BadDelay (a : Arrival) : Type 0 where
  bad_txf : (StampGood (txf a) → ⊥) → BadDelay a
  bad_rxf : Paired a → (StampGood (rxf a) → ⊥) → BadDelay a
  bad_txb : Paired a → (StampGood (txb a) → ⊥) → BadDelay a
  no_receipt : NotGiven a.receive → BadDelay a

-- a signed 64-bit number holds it (`mag` of a number below 0 is its size less 1)
abbrev pub Held : ℤ → Type 0
Held z = mag z < 2 ^ 63

-- a delay reply that passes D7 too
pub record GoodDelay (s : State) (a : Arrival) : Type 0 where
  pub reply : DelayReply s a
  pub good : BadDelay a → ⊥
