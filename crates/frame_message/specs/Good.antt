-- A good frame: what the reader tests of one, in full. The paper, "What is in a PDU": it tests only 1, D1, D3, D4 and D5. Definitions and
-- the statement only.
use Rattle.std.specs.Prelude.{ℕ, ◌+◌, ◌≤◌, ◌<◌, ◌≡◌, Bool, true, false, List, ◌↔◌, length, drop, Result, Ok, Err}
use Rattle.frame_reader_answer.specs.declared.Bad.{Bad}
use Rattle.frame_opcodes.specs.Opcodes.{rule_of}
use Rattle.frame_head.specs.Head.{ether_type_of, pdu_of, opcode_of, offset_of, start_of}
use Rattle.frame_tlvs.specs.Tlvs.{walk_from, is_cut}
use Rattle.frame_reader.specs.Reader.{answer_of, value_of}

-- what is tested before the TLVs: 1, D3 of a service frame, D1, D3, D4
pub record Headed (f : List ℕ) : Type 0 where
  pub shortest : 14 ≤ length f
  pub longest : length f ≤ 1514
  pub oam : ether_type_of f ≡ 0x8902
  pub head : 4 ≤ length (pdu_of f)
  pub opcode : (rule_of (opcode_of (pdu_of f))).known ≡ true
  pub offset : (rule_of (opcode_of (pdu_of f))).least ≤ offset_of (pdu_of f)

-- and D5: the walk over the TLVs comes to their end
pub record Good (f : List ℕ) : Type 0 where
  pub headed : Headed f
  pub ends : is_cut (walk_from 0 (start_of (pdu_of f)) (pdu_of f)) ≡ false

-- the reader gives a reason
abbrev pub is_bad : Result Bool Bad → Bool
is_bad (Err b) = true
is_bad (Ok false) = false
is_bad (Ok true) = false

-- the octets from the TLVs on, by the frame's own offset
abbrev pub tlvs_of : List ℕ → List ℕ
tlvs_of f = drop (start_of (pdu_of f)) (pdu_of f)

-- the reader gives no reason exactly where a frame is good (`frame_message.Good`); its fixed part is then there; the TLVs alone decide
-- what is read, wherever they are
pub record GoodFrames : Type 0 where
  -- the reader gives no reason exactly where a frame is good, whatever type it is asked for
  pub read : (f : List ℕ) (kind : ℕ) → (is_bad (answer_of f kind) ≡ false) ↔ Good f
  -- the fixed part that the opcode's offset gives is there, and an octet behind it
  pub fixed : (f : List ℕ) → Good f → 4 + (rule_of (opcode_of (pdu_of f))).least < length (pdu_of f)
  -- where nothing before the TLVs is wrong, they alone decide what is read, wherever they are and whatever is before them
  pub answers : (f g : List ℕ) → Headed f → Headed g → tlvs_of f ≡ tlvs_of g → (kind : ℕ) → answer_of f kind ≡ answer_of g kind
  pub values : (f g : List ℕ) → Headed f → Headed g → tlvs_of f ≡ tlvs_of g → (kind : ℕ) → value_of f kind ≡ value_of g kind
