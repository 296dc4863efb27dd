-- What the reader does not look at: addresses, level, version, flags and the fixed octets. The paper, "What is in a PDU": the reader tests
-- only 1, D1, D3, D4 and D5. Definitions and the statement only.
use Rattle.std.specs.Prelude.{ℕ, ◌≡◌, List, length, drop}
use Rattle.frame_head.specs.Head.{ether_type_of, pdu_of, opcode_of, offset_of, start_of}
use Rattle.frame_reader.specs.Reader.{value_of, place_of, answer_of}

-- two frames of one length, EtherType, opcode and offset, with the same octets from the TLVs on; all else may differ
pub record Alike (f g : List ℕ) : Type 0 where
  pub long : length f ≡ length g
  pub ether : ether_type_of f ≡ ether_type_of g
  pub opcode : opcode_of (pdu_of f) ≡ opcode_of (pdu_of g)
  pub offset : offset_of (pdu_of f) ≡ offset_of (pdu_of g)
  pub tlvs : drop (start_of (pdu_of f)) (pdu_of f) ≡ drop (start_of (pdu_of g)) (pdu_of g)

-- addresses, level, version, flags and fixed part make no difference to the reader: asked for any type, the same answer, the same octets,
-- at the same place
pub record ReadAlike : Type 0 where
  pub answers : (f g : List ℕ) → Alike f g → (kind : ℕ) → answer_of f kind ≡ answer_of g kind
  pub values : (f g : List ℕ) → Alike f g → (kind : ℕ) → value_of f kind ≡ value_of g kind
  pub places : (f g : List ℕ) → Alike f g → (p : ℕ × ℕ) (kind : ℕ) → place_of p f kind ≡ place_of p g kind
