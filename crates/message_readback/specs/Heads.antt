-- What the head of a frame says, and which counts and stamps fit the wire. Definitions only.
use Rattle.std.specs.Prelude.{ℕ, ◌^◌, ◌<◌, ◌≡◌, List}
use Rattle.frame_head.specs.Head.{destination_of, source_of, ether_type_of, pdu_of, level_of, version_of, opcode_of, flags_of, offset_of}

-- destination, source, 89-02, level, version, opcode, flags, TLV offset
pub record Says (f destination source : List ℕ) (level version opcode flags offset : ℕ) : Type 0 where
  pub to : destination_of f ≡ destination
  pub from : source_of f ≡ source
  pub oam : ether_type_of f ≡ 0x8902
  pub at_level : level_of (pdu_of f) ≡ level
  pub of_version : version_of (pdu_of f) ≡ version
  pub with_opcode : opcode_of (pdu_of f) ≡ opcode
  pub with_flags : flags_of (pdu_of f) ≡ flags
  pub with_offset : offset_of (pdu_of f) ≡ offset

-- a number of 32 bits
abbrev pub Word : ℕ → Type 0
Word n = n < 2 ^ 32
