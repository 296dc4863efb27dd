-- Stamps. The paper, "Numbers": 32-bit seconds and 32-bit nanoseconds, at most 999,999,999; all zero means "not given". Rule 4, D7.
-- Definitions only.
use Rattle.std.specs.Prelude.{◌^◌, ◌<◌, Bool, ◌&&◌, not, eqb, leb}
use Rattle.base_stamp.specs.declared.Stamp.{Stamp}

-- not too many nanoseconds
abbrev pub good : Stamp → Bool
good s = leb s.nanoseconds 999999999

-- all 64 bits zero is "not given"; zero seconds alone are not
abbrev pub given : Stamp → Bool
given s = not (eqb s.seconds 0 && eqb s.nanoseconds 0)

abbrev pub not_given : Stamp
not_given = record { seconds = 0; nanoseconds = 0 }

-- both parts have 32 bits
pub record Wire (s : Stamp) : Type 0 where
  pub seconds : s.seconds < 2 ^ 32
  pub nanoseconds : s.nanoseconds < 2 ^ 32
