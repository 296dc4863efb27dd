-- The paper's numbers for a frame that is read as a message. Definitions and statements only.
use Rattle.std.specs.Prelude.{ℕ, ◌≡◌, Bool, true, ◌&&◌, not, List, [], ◌∷◌, eqb}
use Rattle.base_laws.specs.Tests.{choose}
use Rattle.frame_opcodes.specs.Opcodes.{rule_of}
use Rattle.frame_reader_answer.specs.declared.TlvTold.{TlvTold}
use Rattle.frame_head.specs.Head.{pdu_of, opcode_of, flags_of}
use Rattle.frame_reader.specs.Numbers as Reader
use Rattle.frame_message_answer.specs.declared.MessageTold.{MessageTold}
use Rattle.frame_message_answer.specs.Told.{tell_message, message_told}
use Rattle.frame_message.specs.Good.{Good}
use Rattle.frame_message.specs.Message.{period_code, code_good, message_of}

-- no reason was given
abbrev pub is_good : TlvTold → Bool
is_good t = eqb t.refusal 0 && eqb t.drop 0

-- the reader's numbers, then D7, then the opcode
abbrev pub behind : TlvTold → ℕ → ℕ → MessageTold
behind t opcode flags =
    choose (
    (not (is_good t), tell_message t.refusal t.drop 0)
    ∷ (not (code_good (rule_of opcode) (period_code flags)), tell_message 0 7 0)
    ∷ [])
    (tell_message 0 0 opcode)

abbrev pub message_numbers : List ℕ → MessageTold
message_numbers f = behind (Reader.tlv_numbers f 0) (opcode_of (pdu_of f)) (flags_of (pdu_of f))

-- the opcode of a good frame; 0 of a bad one
abbrev pub good_opcode : List ℕ → ℕ
good_opcode f = (message_numbers f).opcode

-- for every frame the answer has the numbers of one chain; an opcode is given for a good frame alone, and is the frame's
pub record MessageNumbers : Type 0 where
  pub agree : (f : List ℕ) → message_told (message_of f) ≡ message_numbers f
  -- an opcode is given for a good frame with a good period code, and for no other; it is the frame's
  pub opcode : (f : List ℕ) → Good f → code_good (rule_of (opcode_of (pdu_of f))) (period_code (flags_of (pdu_of f))) ≡ true → good_opcode f ≡ opcode_of (pdu_of f)
  pub only : (f : List ℕ) → (good_opcode f ≡ 0 → ⊥)
      → Good f × (good_opcode f ≡ opcode_of (pdu_of f)) × (code_good (rule_of (opcode_of (pdu_of f))) (period_code (flags_of (pdu_of f))) ≡ true)
