-- What is before the TLVs of a frame. The paper, "What is in a PDU": the reader takes a frame alone and tests 1, D1, D3, D4 and D5, in this
-- order; a service frame is D3. Here all of them but D5. Definitions only.
use Rattle.std.specs.Prelude.{ℕ, List, [], ◌∷◌, not, ltb, length, Result, Ok, Err}
use Rattle.frame_reader_answer.specs.declared.Bad.{Bad}
use Rattle.base_laws.specs.Tests.{choose}
use Rattle.frame_opcodes.specs.declared.Rule.{Rule}
use Rattle.frame_opcodes.specs.Opcodes.{rule_of}
use Rattle.frame_reader_answer.specs.declared.Bad.TheVariants.{Length, Short, Opcode, Offset}
use Rattle.frame_head.specs.Head.{is_oam, length_good, pdu_of, opcode_of, offset_of, start_of}

-- D1, D3, D4, or where the TLVs start, by a row of the table
abbrev pub judge_by : Rule → List ℕ → Result ℕ Bad
judge_by row p =
    choose (
    (ltb (length p) 4, Err Short)
    ∷ (not row.known, Err Opcode)
    ∷ (ltb (offset_of p) row.least, Err Offset)
    ∷ [])
    (Ok (start_of p))

-- by the row of its own opcode
unfoldable pub judge_pdu : List ℕ → Result ℕ Bad
judge_pdu p = judge_by (rule_of (opcode_of p)) p

-- refusal 1, D3 for a service frame, or what its PDU is
unfoldable pub judge : List ℕ → Result ℕ Bad
judge f =
    choose (
    (not (length_good f), Err Length)
    ∷ (not (is_oam f), Err Opcode)
    ∷ [])
    (judge_pdu (pdu_of f))
