-- What is sent reads back as what it was made of: CCM, LMM, DMM. The order, demand 2, second sentence. Definitions and statements only.
use Rattle.std.specs.Prelude.{false, ℕ, ◌≤◌, ◌<◌, ◌≡◌, List, length, Ok}
use Rattle.base_bits.specs.Fields.{ccm_flags}
use Rattle.base_stamp.specs.declared.Stamp.{Stamp}
use Rattle.base_stamp.specs.Stamps.{not_given, Wire}
use Rattle.frame_reader.specs.Reader.{answer_of}
use Rattle.frame_message.specs.Message.{message_of}
use Rattle.frame_ccm.specs.Ccm.{ccm_of, meg_of}
use Rattle.frame_measures.specs.Measures.{loss_of, delay_of}
use Rattle.frame_multicast.specs.Multicast.{multicast_of}
use Rattle.message_ccm.specs.declared.CcmValues.{CcmValues}
use Rattle.message_ccm.specs.Continuity.{ccm_octets}
use Rattle.message_requests.specs.Requests.{lmm_octets, dmm_octets}
use Rattle.message_readback.specs.Heads.{Says, Word}

-- ── CCM ──

-- our address and MEG ID, and a CCM's values within their fields; it has a period
pub record CcmGiven (source meg : List ℕ) (c : CcmValues) : Type 0 where
  pub sourced : length source ≡ 6
  pub named : length meg ≡ 48
  pub level : c.level < 8
  pub rdi : c.rdi < 2
  pub some : 1 ≤ c.period
  pub period : c.period < 8
  pub sequence : Word c.sequence
  pub mep : c.mep < 8192
  pub txfcf : Word c.txfcf
  pub rxfcb : Word c.rxfcb
  pub txfcb : Word c.txfcb

pub record CcmBack (source meg : List ℕ) (c : CcmValues) (f : List ℕ) : Type 0 where
  pub head : Says f (multicast_of c.level) source c.level 0 1 (ccm_flags c.rdi c.period) 70
  pub message : message_of f ≡ Ok 1
  pub fields : ccm_of f ≡ record { sequence = c.sequence; mep = c.mep; txfcf = c.txfcf; rxfcb = c.rxfcb; txfcb = c.txfcb; period = c.period; rdi = c.rdi }
  pub name : meg_of f ≡ meg
  pub bare : (kind : ℕ) → answer_of f kind ≡ Ok false

-- ── LMM and DMM ──

pub record LmmBack (destination source : List ℕ) (level sent : ℕ) (f : List ℕ) : Type 0 where
  pub head : Says f destination source level 1 43 0 12
  pub message : message_of f ≡ Ok 43
  pub fields : loss_of f ≡ record { txfcf = sent; rxfcf = 0; txfcb = 0 }
  pub bare : (kind : ℕ) → answer_of f kind ≡ Ok false

pub record DmmBack (destination source : List ℕ) (level : ℕ) (stamp : Stamp) (f : List ℕ) : Type 0 where
  pub head : Says f destination source level 1 47 0 32
  pub message : message_of f ≡ Ok 47
  pub fields : delay_of f ≡ record { txtimestampf = stamp; rxtimestampf = not_given; txtimestampb = not_given }
  pub bare : (kind : ℕ) → answer_of f kind ≡ Ok false

-- ── each of them ──

-- a CCM, LMM or DMM reads back as what it was made of
pub record SentBack : Type 0 where
  pub ccm : (source meg : List ℕ) (c : CcmValues) → CcmGiven source meg c → CcmBack source meg c (ccm_octets source meg c)
  pub lmm : (destination source : List ℕ) (level sent : ℕ) → length destination ≡ 6 → length source ≡ 6 → level < 8 → Word sent
      → LmmBack destination source level sent (lmm_octets destination source level sent)
  pub dmm : (destination source : List ℕ) (level : ℕ) (stamp : Stamp) → length destination ≡ 6 → length source ≡ 6 → level < 8 → Wire stamp
      → DmmBack destination source level stamp (dmm_octets destination source level stamp)
