-- A stored record of any kind. The paper, "Stored records": little-endian; two octets with the length of all that follows them, two with
-- the kind, then the body. It is read from the front of the octets given, and what is behind it is not looked at. Definitions and the
-- statement only.
use Rattle.std.specs.Prelude.{ℕ, ◌+◌, ◌^◌, ◌≤◌, ◌<◌, ◌≡◌, List, ◌++◌, Bool, true, false, ◌&&◌, ◌↔◌, leb, eqb, length}
use Rattle.base_laws.specs.Lists.{part}
use Rattle.base_octets.specs.Octets.{Octets}
use Rattle.base_numbers.specs.Numbers.{little_endian, number, in_octets}

-- length and kind
unfoldable pub head_of : ℕ → ℕ → List ℕ
head_of kind body = in_octets little_endian 2 (2 + body) ++ in_octets little_endian 2 kind

-- the octets of a record
unfoldable pub record_of : ℕ → List ℕ → List ℕ
record_of kind body = head_of kind (length body) ++ body

-- the two fields of the head, wherever they come from
abbrev pub length_field : List ℕ → ℕ
length_field octets = number little_endian (part 0 2 octets)

abbrev pub kind_field : List ℕ → ℕ
kind_field octets = number little_endian (part 2 2 octets)

-- the octets begin with a record of this kind, with a body of so many octets
pub record IsRecord (kind body : ℕ) (octets : List ℕ) : Type 0 where
  pub head : 4 ≤ length octets
  pub length_is : length_field octets ≡ 2 + body
  pub kind_is : kind_field octets ≡ kind
  pub whole : 2 + (2 + body) ≤ length octets

-- they do not, and why
pub data NoRecord (kind body : ℕ) (octets : List ℕ) : Type 0 where
  no_head : length octets < 4 → NoRecord kind body octets
  wrong_length : (length_field octets ≡ 2 + body → ⊥) → NoRecord kind body octets
  wrong_kind : (kind_field octets ≡ kind → ⊥) → NoRecord kind body octets
  cut_short : length octets < 2 + (2 + body) → NoRecord kind body octets

-- the same as a test
unfoldable pub is_record : ℕ → ℕ → List ℕ → Bool
is_record kind body octets = leb (4 + body) (length octets) && (eqb (length_field octets) (2 + body) && eqb (kind_field octets) kind)

-- when octets begin with a record (`stored_record.IsRecord`), and when not (`stored_record.NoRecord`); a record is read back, whatever is
-- behind it; what is read as one is the record of its body; octets behind it are not looked at
pub record Records : Type 0 where
  -- the test means the rules, and fails exactly where one of them is broken
  pub is : (kind body : ℕ) (octets : List ℕ) → (is_record kind body octets ≡ true) ↔ IsRecord kind body octets
  pub is_not : (kind body : ℕ) (octets : List ℕ) → (is_record kind body octets ≡ false) ↔ NoRecord kind body octets
  -- a record is one, whatever is behind it, and its body is read back; two octets must be able to express its length and kind
  pub written : (kind : ℕ) (body rest : List ℕ) → kind < 2 ^ 16 → 2 + length body < 2 ^ 16
      → IsRecord kind (length body) (record_of kind body ++ rest) × (part 4 (length body) (record_of kind body ++ rest) ≡ body)
  -- what is read as a record is the record of its body
  pub again : (kind body : ℕ) (octets : List ℕ) → Octets octets → IsRecord kind body octets → part 0 (4 + body) octets ≡ record_of kind (part 4 body octets)
  -- what is behind it is not looked at
  pub front_alone : (kind body : ℕ) (octets rest : List ℕ) → 4 + body ≤ length octets → is_record kind body (octets ++ rest) ≡ is_record kind body octets
