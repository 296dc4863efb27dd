-- A frame's head, and the first four octets of its PDU. The paper, "Numbers": destination 6, source 6, EtherType 2, then the PDU; 14 to
-- 1,514 octets. "What is in a PDU": octet 1 level and version, 2 opcode, 3 flags, 4 TLV offset. No other file says where the PDU begins.
-- Definitions only.
use Rattle.std.specs.Prelude.{ℕ, ◌+◌, ◌/◌, ◌%◌, List, Bool, cond, ◌&&◌, eqb, ltb, leb, length, get_or, drop}
use Rattle.base_laws.specs.Lists.{part}
use Rattle.base_numbers.specs.Numbers.{number, big_endian}

-- ── the frame ──

abbrev pub destination_of : List ℕ → List ℕ
destination_of f = part 0 6 f

abbrev pub source_of : List ℕ → List ℕ
source_of f = part 6 6 f

abbrev pub ether_type_of : List ℕ → ℕ
ether_type_of f = number big_endian (part 12 2 f)

-- 89-02 is OAM, all else is a service frame
abbrev pub is_oam : List ℕ → Bool
is_oam f = eqb (ether_type_of f) 0x8902

-- from 14 to 1,514 octets
abbrev pub length_good : List ℕ → Bool
length_good f = leb 14 (length f) && leb (length f) 1514

-- the PDU is behind the head
abbrev pub head_length : ℕ
head_length = 14

-- an OAM frame; what has no EtherType is none
abbrev pub oam_frame : List ℕ → Bool
oam_frame f = leb head_length (length f) && is_oam f

abbrev pub pdu_of : List ℕ → List ℕ
pdu_of f = drop head_length f

-- a place of a frame, in the frame's own memory; of a frame shorter than its head, the frame's start
abbrev pub place_or_start : ℕ → ℕ × ℕ → List ℕ → ℕ × ℕ
place_or_start at p f = cond (ltb (length f) head_length) p (p.0, at + p.1)

-- a place of the PDU as a place of the frame
abbrev pub behind_head : ℕ → ℕ
behind_head at = head_length + at

-- ── the PDU ──

abbrev pub level_of : List ℕ → ℕ
level_of p = get_or p 0 0 / 32

abbrev pub version_of : List ℕ → ℕ
version_of p = get_or p 0 0 % 32

abbrev pub opcode_of : List ℕ → ℕ
opcode_of p = get_or p 1 0

abbrev pub flags_of : List ℕ → ℕ
flags_of p = get_or p 2 0

abbrev pub offset_of : List ℕ → ℕ
offset_of p = get_or p 3 0

-- TLVs begin at 4 + the frame's own offset, wherever the opcode's usual ones do
abbrev pub start_of : List ℕ → ℕ
start_of p = 4 + offset_of p

-- a number of four octets at a place of the PDU
abbrev pub word : ℕ → List ℕ → ℕ
word at p = number big_endian (part at 4 p)
