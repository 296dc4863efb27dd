-- A loss line and its record. The paper, "Stored records": kind 2, length 22: near 8 and far 8, signed, then intervals 4, little-endian;
-- its values keep the rules of a session on intervals and totals. Definitions only.
use Rattle.std.specs.Prelude.{ℕ, ◌*◌, ◌≤◌, List, ◌++◌, Bool, ℤ, nat_abs}
use Rattle.std.specs.Int.{w64}
use Rattle.std.proofs.Common.{to_z, of_z}
use Rattle.base_laws.specs.Lists.{part}
use Rattle.base_numbers.specs.Numbers.{little_endian, number, in_octets}
use Rattle.loss_session.specs.declared.LossSession.{LossSession}
use Rattle.loss_session.specs.Session.{no_readings, well_formed, most_intervals}
use Rattle.stored_record.specs.Record.{record_of}
use Rattle.stored_line.specs.declared.LossLine.{LossLine}

-- what is meant by its rules
pub record KeepsRules (line : LossLine) : Type 0 where
  pub few : line.intervals ≤ most_intervals
  pub near : nat_abs line.near ≤ line.intervals * 4294967295
  pub far : nat_abs line.far ≤ line.intervals * 4294967295

-- what is tested: the rules of a session that has these values
abbrev pub session_of : LossLine → LossSession
session_of line = record { kept = 1; intervals = line.intervals; last = no_readings; near = line.near; far = line.far }

abbrev pub keeps_rules : LossLine → Bool
keeps_rules line = well_formed (session_of line)

-- a signed number in eight octets, two's complement
abbrev pub signed_octets : ℤ → List ℕ
signed_octets z = in_octets little_endian 8 (of_z w64 z)

-- the body, and the whole record
unfoldable pub line_body : LossLine → List ℕ
line_body line = signed_octets line.near ++ signed_octets line.far ++ in_octets little_endian 4 line.intervals

abbrev pub line_record : LossLine → List ℕ
line_record line = record_of 2 (line_body line)

-- the line in the octets of a record, behind the four of its head
abbrev pub signed_at : ℕ → List ℕ → ℤ
signed_at at octets = to_z w64 (number little_endian (part at 8 octets))

unfoldable pub line_in : List ℕ → LossLine
line_in octets = record { near = signed_at 4 octets; far = signed_at 12 octets; intervals = number little_endian (part 20 4 octets) }
