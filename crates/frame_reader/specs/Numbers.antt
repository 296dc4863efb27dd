-- What is answered of a frame, in the paper's numbers: one chain in the paper's order. Definitions and statements only.
use Rattle.std.specs.Prelude.{ℕ, ◌≡◌, List, [], ◌∷◌, Bool, true, false, not, ltb, length, Result, Err}
use Rattle.base_laws.specs.Tests.{choose}
use Rattle.frame_opcodes.specs.Opcodes.{rule_of}
use Rattle.frame_reader_answer.specs.declared.Bad.{Bad}
use Rattle.frame_tlvs.specs.declared.Place.{Place}
use Rattle.frame_tlvs.specs.declared.Place.TheVariants as place
use Rattle.frame_reader_answer.specs.declared.TlvTold.{TlvTold}
use Rattle.frame_head.specs.Head.{is_oam, length_good, pdu_of, opcode_of, offset_of, start_of}
use Rattle.frame_tlvs.specs.Tlvs.{walk_from, is_cut}
use Rattle.frame_reader.specs.Reader.{answer_of}
use Rattle.frame_reader_answer.specs.Told.{tell_tlv, tlv_told}

abbrev pub is_found : Place → Bool
is_found (place.Found start len) = true
is_found (place.End at) = false
is_found (place.Cut at) = false

-- in the paper's order: 1, D3 for a service frame, D1, D3, D4, D5, then a value or none
unfoldable pub tlv_numbers : List ℕ → ℕ → TlvTold
tlv_numbers f kind =
    choose (
    (not (length_good f), tell_tlv 1 0 0)
    ∷ (not (is_oam f), tell_tlv 0 3 0)
    ∷ (ltb (length (pdu_of f)) 4, tell_tlv 0 1 0)
    ∷ (not (rule_of (opcode_of (pdu_of f))).known, tell_tlv 0 3 0)
    ∷ (ltb (offset_of (pdu_of f)) (rule_of (opcode_of (pdu_of f))).least, tell_tlv 0 4 0)
    ∷ (is_cut (walk_from 0 (start_of (pdu_of f)) (pdu_of f)), tell_tlv 0 5 0)
    ∷ (is_found (walk_from kind (start_of (pdu_of f)) (pdu_of f)), tell_tlv 0 0 1)
    ∷ [])
    (tell_tlv 0 0 0)

-- for every frame and type the reader gives the numbers of one chain, in the paper's order; no two answers have the same numbers; type 0
-- is never a value; beside a refusal or a drop there is no value
pub record ReaderNumbers : Type 0 where
  -- the staged search gives the numbers of the one chain
  pub agree : (f : List ℕ) (kind : ℕ) → tlv_told (answer_of f kind) ≡ tlv_numbers f kind
  -- no two answers have the same numbers
  pub apart : (a b : Result Bool Bad) → tlv_told a ≡ tlv_told b → a ≡ b
  -- type 0 is never a value
  pub never : (f : List ℕ) → (tlv_told (answer_of f 0)).value ≡ 0
  -- beside a refusal or a drop no value is given
  pub bare : (b : Bad) → (tlv_told (Err b)).value ≡ 0
