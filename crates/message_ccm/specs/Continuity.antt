-- The octets of a CCM. The paper, "What is in a PDU": the table of fixed parts, and the versions sent; "A tick": the CCM. Definitions and
-- the statement only.
use Rattle.std.specs.Prelude.{ℕ, ◌≡◌, List, ◌++◌, length, replicate}
use Rattle.base_bits.specs.Fields.{first_octet, ccm_flags, mep_id}
use Rattle.base_numbers.specs.Numbers.{in_octets, big_endian}
use Rattle.frame_multicast.specs.Multicast.{multicast_of}
use Rattle.state_settings.specs.Settings.{own_named, meg_named}
use Rattle.message_parts.specs.Messages.{count, after_destination}
use Rattle.message_ccm.specs.declared.CcmValues.{CcmValues}

-- sequence, MEP ID, MEG ID, three counts, four reserved octets; then the End TLV
unfoldable pub ccm_fixed : List ℕ → CcmValues → List ℕ
ccm_fixed meg c =
    count c.sequence
    ++ in_octets big_endian 2 (mep_id c.mep)
    ++ meg
    ++ count c.txfcf
    ++ count c.rxfcb
    ++ count c.txfcb
    ++ replicate 5 0

-- to our level's multicast address, version 0, opcode 1, offset 70
unfoldable pub ccm_octets : List ℕ → List ℕ → CcmValues → List ℕ
ccm_octets source meg c =
    multicast_of c.level
    ++ after_destination source (first_octet c.level 0) 1 (ccm_flags c.rdi c.period) 70
    ++ ccm_fixed meg c

-- with our own address and MEG ID, as they are among the names
abbrev pub ccm_named : List ℕ → CcmValues → List ℕ
ccm_named names c = ccm_octets (own_named names) (meg_named names) c

-- how long it is, an address being 6 and a MEG ID 48
abbrev pub ccm_length : ℕ
ccm_length = 89

-- a CCM has 89 octets
pub record Lengths : Type 0 where
  pub ccm : (source meg : List ℕ) (c : CcmValues) → length source ≡ 6 → length meg ≡ 48 → length (ccm_octets source meg c) ≡ ccm_length
