-- What the paper says of a frame that is handled: rules 5 to 8, and refusals 3 and 5. A line for each sentence that decides something, as
-- in Judged.antt. Definitions only.
use Rattle.std.specs.Prelude.{ℕ, ◌≤◌, ◌<◌, ◌≡◌, List, [], ◌∷◌, pos, ◌-ℤ◌, length}
use Rattle.base_laws.specs.Lists.{laid}
use Rattle.base_period.specs.Periods.{hold_of}
use Rattle.loss_session.specs.Session.{near, far}
use Rattle.loss_reading.specs.Reading.{loss_on}
use Rattle.state_view.specs.Changed as word
use Rattle.state_view.specs.Changed.{put, heard, with_session}
use Rattle.state_view.specs.State.{State}
use Rattle.receive_delay.specs.Used.{between}
use Rattle.frame_ccm.specs.Ccm.{ccm_in, meg_in}
use Rattle.paper_said.specs.Calls.{Arrival, refused, dropped, taken, written, loss, delay, delays, Outcome, leaves}
use Rattle.paper_said.specs.Cases.{pdu, opcode, hold, OneOf, OwnLevel}
use Rattle.paper_said.specs.Drops.{Sound, code}
use Rattle.paper_said.specs.Taken.{PeerAt, OwnCcm, FromPeer, LossReply, txf, rxf, txb, Paired, Held, GoodDelay}
use Rattle.paper_said.specs.Made.{Reply, reading, kept_first, measured}

-- `Handling s a o`: to this frame in state s, the paper's outcome is o
pub data Handling (s : State) : Arrival → Outcome → Type 0 where
  -- ── rule 5: CCMs, each holding for our own hold time; AIS and LCK ──
  -- another MEG: mismerge
  rule_5_mismerge : (a : Arrival) → OwnCcm s a → (meg_in (pdu a) ≡ s.settings.meg → ⊥)
      → Handling s a (leaves taken (put word.mismerge (hold s) s) a.buffer)
  -- our MEG, and no peer's MEP ID: unexpected MEP; our own is no peer's
  rule_5_mep : (a : Arrival) → OwnCcm s a → meg_in (pdu a) ≡ s.settings.meg → ((k : ℕ) → PeerAt s k (ccm_in (pdu a)).mep → ⊥)
      → Handling s a (leaves taken (put word.unexpected_mep (hold s) s) a.buffer)
  -- a peer is heard, with the RDI that it sends
  rule_5_peer : (a : Arrival) (k : ℕ) → FromPeer s a k → code a ≡ s.settings.period
      → Handling s a (leaves taken (heard k (hold s) (ccm_in (pdu a)).rdi s) a.buffer)
  -- so is one of another period, which is unexpected as well
  rule_5_period : (a : Arrival) (k : ℕ) → FromPeer s a k → (code a ≡ s.settings.period → ⊥)
      → Handling s a (leaves taken (put word.unexpected_period (hold s) (heard k (hold s) (ccm_in (pdu a)).rdi s)) a.buffer)
  -- AIS and LCK hold for 3.5 of their own period, whatever was left before
  rule_5_ais : (a : Arrival) → OwnLevel s a → Sound s a → opcode a ≡ 33 → OneOf (code a) (4 ∷ 6 ∷ [])
      → Handling s a (leaves taken (put word.ais (hold_of (code a)) s) a.buffer)
  rule_5_lck : (a : Arrival) → OwnLevel s a → Sound s a → opcode a ≡ 35 → OneOf (code a) (4 ∷ 6 ∷ [])
      → Handling s a (leaves taken (put word.lck (hold_of (code a)) s) a.buffer)
  -- ── rule 6: requests are answered in the buffer, whose octets behind the reply stay ──
  rule_6 : (a : Arrival) (reply : List ℕ) → OwnLevel s a → Sound s a → Reply s a reply → length reply ≤ length a.buffer
      → Handling s a (leaves (written (length reply)) s (laid 0 reply a.buffer))
  -- 3: there is no room for it
  frame_3 : (a : Arrival) (reply : List ℕ) → OwnLevel s a → Sound s a → Reply s a reply → length a.buffer < length reply
      → Handling s a (leaves (refused 3) s a.buffer)
  -- ── rule 7: an LMR ──
  -- nothing to measure against yet: it is kept, and both losses are answered as 0
  rule_7_first : (a : Arrival) → LossReply s a → s.session.kept ≡ 0
      → Handling s a (leaves (loss (pos 0) (pos 0)) (with_session (kept_first s.session (reading s a)) s) a.buffer)
  -- the losses since the reading before it
  rule_7_later : (a : Arrival) → LossReply s a → s.session.kept ≡ 1 → s.session.intervals < 1000000000
      → Handling s a (leaves (loss (loss_on near s.session.last (reading s a)) (loss_on far s.session.last (reading s a))) (with_session (measured s.session (reading s a)) s) a.buffer)
  -- 5: the session has all the intervals that it can have
  frame_5 : (a : Arrival) → LossReply s a → s.session.kept ≡ 1 → s.session.intervals ≡ 1000000000
      → Handling s a (leaves (refused 5) s a.buffer)
  -- ── rule 8: a DMR ──
  -- from our asking to our receipt
  rule_8_two_way : (a : Arrival) → GoodDelay s a → (Paired a → ⊥) → Held (between (txf a) a.receive)
      → Handling s a (leaves (delay (between (txf a) a.receive)) s a.buffer)
  -- with the responder's two stamps: without its stay, and each way by itself
  rule_8_all_ways : (a : Arrival) → GoodDelay s a → Paired a
      → Held (between (txf a) a.receive -ℤ between (rxf a) (txb a)) → Held (between (txf a) (rxf a)) → Held (between (txb a) a.receive)
      → Handling s a (leaves (delays (between (txf a) a.receive -ℤ between (rxf a) (txb a)) (between (txf a) (rxf a)) (between (txb a) a.receive)) s a.buffer)
  -- D8: one of them is too large for 64 bits
  rule_8_d8_two_way : (a : Arrival) → GoodDelay s a → (Paired a → ⊥) → (Held (between (txf a) a.receive) → ⊥)
      → Handling s a (leaves (dropped 8) s a.buffer)
  rule_8_d8_all_ways : (a : Arrival) → GoodDelay s a → Paired a
      → (Held (between (txf a) a.receive -ℤ between (rxf a) (txb a)) → Held (between (txf a) (rxf a)) → Held (between (txb a) a.receive) → ⊥)
      → Handling s a (leaves (dropped 8) s a.buffer)
