-- The octets of an LMM and of a DMM. The paper, "What is in a PDU": the table of fixed parts, and the versions sent; "A tick": the LMM and
-- DMM; the standard, figure 9.12-1: LMM's version is 1. Definitions and the statement only.
use Rattle.std.specs.Prelude.{ℕ, ◌≡◌, List, ◌++◌, length, replicate}
use Rattle.base_bits.specs.Fields.{first_octet}
use Rattle.base_stamp.specs.declared.Stamp.{Stamp}
use Rattle.state_settings.specs.Settings.{own_named, losspeer_named}
use Rattle.message_parts.specs.Messages.{count, stamp_octets, after_destination}

-- version 1, opcode 43, flags 0, offset 12: TxFCf, and zeros for RxFCf and TxFCb; then the End TLV
unfoldable pub lmm_octets : List ℕ → List ℕ → ℕ → ℕ → List ℕ
lmm_octets destination source level sent =
    destination
    ++ after_destination source (first_octet level 1) 43 0 12
    ++ count sent
    ++ replicate 9 0

-- version 1, opcode 47, flags 0, offset 32: TxTimeStampf, and zeros for the three stamps behind it; then the End TLV
unfoldable pub dmm_octets : List ℕ → List ℕ → ℕ → Stamp → List ℕ
dmm_octets destination source level stamp =
    destination
    ++ after_destination source (first_octet level 1) 47 0 32
    ++ stamp_octets stamp
    ++ replicate 25 0

-- from our own address to the loss peer's, as they are among the names
abbrev pub lmm_named : List ℕ → ℕ → ℕ → List ℕ
lmm_named names level sent = lmm_octets (losspeer_named names) (own_named names) level sent

abbrev pub dmm_named : List ℕ → ℕ → Stamp → List ℕ
dmm_named names level stamp = dmm_octets (losspeer_named names) (own_named names) level stamp

-- how long they are, an address being 6
abbrev pub lmm_length : ℕ
lmm_length = 31

abbrev pub dmm_length : ℕ
dmm_length = 51

-- an LMM has 31 octets, and a DMM 51
pub record Lengths : Type 0 where
  pub lmm : (destination source : List ℕ) (level sent : ℕ) → length destination ≡ 6 → length source ≡ 6
      → length (lmm_octets destination source level sent) ≡ lmm_length
  pub dmm : (destination source : List ℕ) (level : ℕ) (stamp : Stamp) → length destination ≡ 6 → length source ≡ 6
      → length (dmm_octets destination source level stamp) ≡ dmm_length
