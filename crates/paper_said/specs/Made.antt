-- What the box makes: the messages that it sends and the replies that it gives (rule 6, the tick, the senders), and what a loss reply is
-- made into (rule 7). Definitions only.
use Rattle.std.specs.Prelude.{ℕ, ◌+◌, ◌≡◌, List, ◌+ℤ◌}
use Rattle.loss_session.specs.Session.{near, far, readings}
use Rattle.loss_session.specs.declared.LossSession.{LossSession}
use Rattle.loss_session.specs.declared.Readings.{Readings}
use Rattle.loss_reading.specs.Reading.{loss_on}
use Rattle.state_view.specs.State.{State}
use Rattle.base_stamp.specs.declared.Stamp.{Stamp}
use Rattle.frame_measures.specs.Measures.{loss_in}
use Rattle.message_ccm.specs.Continuity.{ccm_octets}
use Rattle.message_ccm.specs.declared.CcmValues.{CcmValues}
use Rattle.message_requests.specs.Requests.{lmm_octets, dmm_octets}
use Rattle.message_lbr.specs.Lbr.{lbr_octets}
use Rattle.message_lmr.specs.Lmr.{lmr_octets}
use Rattle.message_dmr.specs.Dmr.{dmr_octets}
use Rattle.paper_said.specs.Calls.{Arrival}
use Rattle.paper_said.specs.Cases.{pdu, opcode}

-- ── what a message is made of ──

-- the CCM that a state sends, 89 octets: neither sequence nor counts are used
abbrev pub ccm_values : State → ℕ → CcmValues
ccm_values s rdi = record { level = s.settings.level; rdi = rdi; period = s.settings.period; sequence = 0; mep = s.settings.mep; txfcf = 0; rxfcb = 0; txfcb = 0 }

abbrev pub ccm_from : State → ℕ → List ℕ
ccm_from s rdi = ccm_octets s.settings.own s.settings.meg (ccm_values s rdi)

-- the LMM, 31 octets to the loss peer, with our sent count
abbrev pub lmm_from : State → List ℕ
lmm_from s = lmm_octets s.settings.losspeer s.settings.own s.settings.level s.sent

-- the DMM, 51 octets to the loss peer, with the caller's stamp in front
abbrev pub dmm_from : State → Stamp → List ℕ
dmm_from s t = dmm_octets s.settings.losspeer s.settings.own s.settings.level t

-- rule 6: which reply a request gets, made from the request itself; an LMR brings our two counts, a DMR the caller's two stamps
pub data Reply (s : State) (a : Arrival) : List ℕ → Type 0 where
  lbr : opcode a ≡ 3 → Reply s a (lbr_octets s.settings.own a.octets)
  lmr : opcode a ≡ 43 → Reply s a (lmr_octets s.settings.own s.received s.sent a.octets)
  dmr : opcode a ≡ 47 → Reply s a (dmr_octets s.settings.own a.receive a.transmit a.octets)

-- ── what a loss reply is made into ──

-- rule 7: the reading that a loss reply gives
abbrev pub reading : State → Arrival → Readings
reading s a = readings (loss_in (pdu a)).txfcf (loss_in (pdu a)).rxfcf (loss_in (pdu a)).txfcb s.received

-- a first reading is kept, and nothing is measured
abbrev pub kept_first : LossSession → Readings → LossSession
kept_first x r = record { kept = 1; intervals = x.intervals; last = r; near = x.near; far = x.far }

-- a later one ends an interval: each direction's loss goes into its total
abbrev pub measured : LossSession → Readings → LossSession
measured x r = record {
  kept = x.kept;
  intervals = x.intervals + 1;
  last = r;
  near = x.near +ℤ loss_on near x.last r;
  far = x.far +ℤ loss_on far x.last r;
}
