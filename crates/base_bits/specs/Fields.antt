-- What is put together is taken apart again: the first octet of a PDU and the flags of a CCM. The paper, "What is in a PDU" and rules 4
-- and 5. Definitions and the statement only.
use Rattle.std.specs.Prelude.{ℕ, ◌+◌, ◌*◌, ◌/◌, ◌%◌, ◌<◌, ◌≡◌}

-- the low three bits of the level on top, the low five of the version below
abbrev pub first_octet : ℕ → ℕ → ℕ
first_octet level version = level % 8 * 32 + version % 32

-- RDI's low bit on top, the low three of the period code below
abbrev pub ccm_flags : ℕ → ℕ → ℕ
ccm_flags rdi code = rdi % 2 * 128 + code % 8

-- the low thirteen bits
abbrev pub mep_id : ℕ → ℕ
mep_id field = field % 8192

-- level and version, RDI and period code come back from the octet that they are put into
pub record Fields : Type 0 where
  -- a level up to 7 and a version up to 31 come back from the first octet
  pub level_back : (level version : ℕ) → level < 8 → version < 32 → first_octet level version / 32 ≡ level
  pub version_back : (level version : ℕ) → level < 8 → version < 32 → first_octet level version % 32 ≡ version
  -- RDI and a period code up to 7 come back from the flags
  pub rdi_back : (rdi code : ℕ) → rdi < 2 → code < 8 → ccm_flags rdi code / 128 ≡ rdi
  pub code_back : (rdi code : ℕ) → rdi < 2 → code < 8 → ccm_flags rdi code % 8 ≡ code
