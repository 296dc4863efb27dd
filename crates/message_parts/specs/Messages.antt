-- What the octets of messages share: counts, stamps, and what is between the destination and the fixed part. The paper, "Numbers" and
-- "What is in a PDU". Definitions only.
use Rattle.std.specs.Prelude.{ℕ, List, [], ◌∷◌, ◌++◌}
use Rattle.base_numbers.specs.Numbers.{in_octets, big_endian}
use Rattle.base_stamp.specs.declared.Stamp.{Stamp}

-- a count of 32 bits as the wire has it
abbrev pub count : ℕ → List ℕ
count n = in_octets big_endian 4 n

-- seconds, then nanoseconds
abbrev pub stamp_octets : Stamp → List ℕ
stamp_octets s = count s.seconds ++ count s.nanoseconds

-- source, 89-02, level and version, opcode, flags, TLV offset
unfoldable pub after_destination : List ℕ → ℕ → ℕ → ℕ → ℕ → List ℕ
after_destination source first opcode flags offset = source ++ in_octets big_endian 2 0x8902 ++ (first ∷ opcode ∷ flags ∷ offset ∷ [])
