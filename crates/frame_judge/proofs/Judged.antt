-- What stands before the TLVs, case by case: laws from facts on numbers, which a return of the code finds. Assumes nothing.
use Prim.Native.Nat.{ℕ, ◌≤◌, ◌<◌}
use mathlib.Core.Path.{◌≡◌}
use mathlib.Core.Bool.{true, false}
use mathlib.Core.List.{List}
use borrow.Author.Tests.{lt-ltb, le-ltb}
use lib.ListN.{length}
use Rattle.std.specs.Prelude.{Ok, Err}
use Rattle.base_laws.specs.Tests.{choose}
use Rattle.frame_opcodes.specs.declared.Rule.{Rule}
use Rattle.frame_opcodes.specs.Opcodes.{rule_of}
use Rattle.frame_reader_answer.specs.declared.Bad.TheVariants.{Length, Short, Opcode, Offset}
use Rattle.frame_head.specs.Head.{is_oam, length_good, pdu_of, opcode_of, offset_of, start_of}
use Rattle.frame_judge.specs.Judge.{judge_by, judge_pdu, judge}

-- by a row
module _ (row : Rule) (p : List ℕ) where
  pub row-short : length p < 4 → judge_by row p ≡ Err Short
  unfolding choose
  row-short h = rw (lt-ltb (length p) 4 h)

  module _ (long : 4 ≤ length p) where
    pub row-opcode : row.known ≡ false → judge_by row p ≡ Err Opcode
    unfolding choose
    row-opcode k = rw (le-ltb (length p) 4 long, k)

    module _ (k : row.known ≡ true) where
      pub row-offset : offset_of p < row.least → judge_by row p ≡ Err Offset
      unfolding choose
      row-offset h = rw (le-ltb (length p) 4 long, k, lt-ltb (offset_of p) row.least h)

      pub row-tlvs : row.least ≤ offset_of p → judge_by row p ≡ Ok (start_of p)
      unfolding choose
      row-tlvs h = rw (le-ltb (length p) 4 long, k, le-ltb (offset_of p) row.least h)

-- by the row of its own opcode
module _ (p : List ℕ) where
  pub pdu-short : length p < 4 → judge_pdu p ≡ Err Short
  unfolding judge_pdu
  pdu-short h = row-short (rule_of (opcode_of p)) p h

  module _ (long : 4 ≤ length p) where
    pub pdu-opcode : (rule_of (opcode_of p)).known ≡ false → judge_pdu p ≡ Err Opcode
    unfolding judge_pdu
    pdu-opcode k = row-opcode (rule_of (opcode_of p)) p long k

    module _ (k : (rule_of (opcode_of p)).known ≡ true) where
      pub pdu-offset : offset_of p < (rule_of (opcode_of p)).least → judge_pdu p ≡ Err Offset
      unfolding judge_pdu
      pdu-offset h = row-offset (rule_of (opcode_of p)) p long k h

      pub pdu-tlvs : (rule_of (opcode_of p)).least ≤ offset_of p → judge_pdu p ≡ Ok (start_of p)
      unfolding judge_pdu
      pdu-tlvs h = row-tlvs (rule_of (opcode_of p)) p long k h

-- of a frame, by its length and its EtherType
module _ (f : List ℕ) where
  pub frame-length : length_good f ≡ false → judge f ≡ Err Length
  unfolding judge choose
  frame-length h = rw h

  module _ (good : length_good f ≡ true) where
    pub frame-service : is_oam f ≡ false → judge f ≡ Err Opcode
    unfolding judge choose
    frame-service n = rw (good, n)

    pub frame-oam : is_oam f ≡ true → judge f ≡ judge_pdu (pdu_of f)
    unfolding judge choose
    frame-oam e = rw (good, e)
