-- The fields of a CCM, at their places in the PDU. The paper, "What is in a PDU": the row of opcode 1; the MEP ID is the low 13 bits, the
-- period code the low three of the flags, RDI the highest. All are 0 where the frame is bad or another message. Definitions only.
use Rattle.std.specs.Prelude.{ℕ, ◌+◌, ◌/◌, Bool, cond, List, [], eqb}
use Rattle.base_laws.specs.Lists.{part}
use Rattle.base_bits.specs.Fields.{mep_id}
use Rattle.base_numbers.specs.Numbers.{number, big_endian}
use Rattle.frame_head.specs.Head.{word, pdu_of, flags_of, behind_head}
use Rattle.frame_ccm.specs.declared.CcmFields.{CcmFields}
use Rattle.frame_message.specs.Message.{period_code}
use Rattle.frame_message.specs.Told.{good_opcode}

-- ── 1 CCM: sequence 4, MEP ID 2, MEG ID 48, three counts of 4 ──

abbrev pub is_ccm : List ℕ → Bool
is_ccm f = eqb (good_opcode f) 1

abbrev pub ccm_in : List ℕ → CcmFields
ccm_in p = record {
  sequence = word 4 p;
  mep = mep_id (number big_endian (part 8 2 p));
  txfcf = word 58 p;
  rxfcb = word 62 p;
  txfcb = word 66 p;
  period = period_code (flags_of p);
  rdi = flags_of p / 128;
}

abbrev pub no_ccm : CcmFields
no_ccm = record { sequence = 0; mep = 0; txfcf = 0; rxfcb = 0; txfcb = 0; period = 0; rdi = 0 }

unfoldable pub ccm_of : List ℕ → CcmFields
ccm_of f = cond (is_ccm f) (ccm_in (pdu_of f)) no_ccm

abbrev pub meg_in : List ℕ → List ℕ
meg_in p = part 10 48 p

unfoldable pub meg_of : List ℕ → List ℕ
meg_of f = cond (is_ccm f) (meg_in (pdu_of f)) []

-- in the frame's own memory; an empty part is at the frame's start
unfoldable pub meg_place : ℕ × ℕ → List ℕ → ℕ × ℕ
meg_place p f = cond (is_ccm f) (p.0, behind_head 10 + p.1) p
