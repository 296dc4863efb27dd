-- A loss session in octets, as recorded runs put and show it: kept 1, the readings TxFCf, RxFCf, TxFCb and ours of 4 each, near 8, far 8,
-- intervals 4; little-endian, near and far in two's complement. Definitions and the statement only.
use Rattle.std.specs.Prelude.{ℕ, ◌^◌, ◌<◌, ◌≡◌, List, ◌++◌, ℤ, length}
use Rattle.std.specs.Int.{w64}
use Rattle.std.proofs.Common.{SFits, to_z, of_z}
use Rattle.base_laws.specs.Lists.{part}
use Rattle.base_octets.specs.Octets.{Octets}
use Rattle.base_numbers.specs.Numbers.{little_endian, number, in_octets}
use Rattle.loss_session.specs.declared.LossSession.{LossSession}
use Rattle.loss_session.specs.Session.{readings}

-- a field of n octets that holds a number, and the number of such a field
abbrev pub field : ℕ → ℕ → List ℕ
field n value = in_octets little_endian n value

abbrev pub field_at : ℕ → ℕ → List ℕ → ℕ
field_at at n octets = number little_endian (part at n octets)

-- the same of a signed number, in eight octets
abbrev pub signed : ℤ → List ℕ
signed value = field 8 (of_z w64 value)

abbrev pub signed_at : ℕ → List ℕ → ℤ
signed_at at octets = to_z w64 (field_at at 8 octets)

-- the octets of a session
unfoldable pub session_octets : LossSession → List ℕ
session_octets s =
    field 1 s.kept
    ++ field 4 s.last.txf
    ++ field 4 s.last.rxf
    ++ field 4 s.last.txb
    ++ field 4 s.last.ours
    ++ signed s.near
    ++ signed s.far
    ++ field 4 s.intervals

-- the session in octets, taken as it is
abbrev pub session_at : List ℕ → LossSession
session_at octets = record {
  kept = field_at 0 1 octets;
  last = readings (field_at 1 4 octets) (field_at 5 4 octets) (field_at 9 4 octets) (field_at 13 4 octets);
  near = signed_at 17 octets;
  far = signed_at 25 octets;
  intervals = field_at 33 4 octets;
}

-- each number fits in the octets of its field; of what a session holds only `kept` may not
pub record FieldsHold (s : LossSession) : Type 0 where
  pub kept : s.kept < 2 ^ 8
  pub txf : s.last.txf < 2 ^ 32
  pub rxf : s.last.rxf < 2 ^ 32
  pub txb : s.last.txb < 2 ^ 32
  pub ours : s.last.ours < 2 ^ 32
  pub near : SFits w64 s.near
  pub far : SFits w64 s.far
  pub intervals : s.intervals < 2 ^ 32

-- any 37 octets come back from the session that they hold, well formed or not, and a session whose numbers fit their fields from its
-- octets
pub record SessionsInOctets : Type 0 where
  pub long : (s : LossSession) → length (session_octets s) ≡ 37
  -- octets come back from the session that they hold, and a session from its octets
  pub again : (octets : List ℕ) → length octets ≡ 37 → Octets octets → session_octets (session_at octets) ≡ octets
  pub back : (s : LossSession) → FieldsHold s → session_at (session_octets s) ≡ s
