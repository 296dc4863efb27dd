-- The body of a stored record of settings, for any number n of slots. The paper, "Stored records": level 1, MEP ID 2, own address 6, period
-- code 1, MEG ID 48, loss peer 6, peer count 1, the IDs of 2 each; addresses and MEG IDs in wire order. Definitions and the statement only.
use Rattle.std.specs.Prelude.{ℕ, zero, suc, ◌+◌, ◌*◌, ◌^◌, ◌≤◌, ◌<◌, ◌≡◌, List, [], ◌∷◌, ◌++◌, length, get_or, drop}
use Rattle.base_laws.specs.Lists.{part}
use Rattle.base_octets.specs.Octets.{Octets}
use Rattle.base_numbers.specs.Numbers.{little_endian, number, in_octets}
use Rattle.state_settings.specs.Settings.{Settings, Shaped}

-- a field of n octets that holds a number, and the number of such a field
abbrev pub field : ℕ → ℕ → List ℕ
field n value = in_octets little_endian n value

abbrev pub field_at : ℕ → ℕ → List ℕ → ℕ
field_at at n octets = number little_endian (part at n octets)

-- each ID in two octets
unfoldable pub ids_octets : List ℕ → List ℕ
ids_octets [] = []
ids_octets (id ∷ ids) = field 2 id ++ ids_octets ids

-- the n IDs at the front of octets
unfoldable pub ids_in : ℕ → List ℕ → List ℕ
ids_in zero octets = []
ids_in (suc n) octets = field_at 0 2 octets ∷ ids_in n (drop 2 octets)

-- the fields in front of the IDs, in the paper's order
unfoldable pub fields_before : Settings → List ℕ
fields_before t =
    field 1 t.level
    ++ field 2 t.mep
    ++ t.own
    ++ field 1 t.period
    ++ t.meg
    ++ t.losspeer
    ++ field 1 t.count

-- the body of settings
unfoldable pub settings_body : Settings → List ℕ
settings_body t = fields_before t ++ ids_octets t.ids

-- where the IDs begin, and how many octets a body with n slots has
abbrev pub ids_place : ℕ
ids_place = 65

abbrev pub body_length : ℕ → ℕ
body_length n = ids_place + 2 * n

-- the settings in a body with n slots
abbrev pub settings_in : ℕ → List ℕ → Settings
settings_in n body = record {
  level = field_at 0 1 body;
  mep = field_at 1 2 body;
  period = field_at 9 1 body;
  count = field_at 64 1 body;
  own = part 3 6 body;
  losspeer = part 58 6 body;
  meg = part 10 48 body;
  ids = ids_in n (drop ids_place body);
}

-- ── what is meant ──

-- each number fits in the octets of its field
pub record FieldsHold (t : Settings) : Type 0 where
  pub level : t.level < 2 ^ 8
  pub mep : t.mep < 2 ^ 16
  pub period : t.period < 2 ^ 8
  pub count : t.count < 2 ^ 8
  pub ids : (i : ℕ) → get_or t.ids i 0 < 2 ^ 16

-- for any number of slots, and kind 1 has as many as a box: settings come back from their body, and a body from its settings; where each
-- ID is; how long both are
pub record Bodies : Type 0 where
  -- the ID of slot i is in two octets, from place 2 i on
  pub ids_at : (n : ℕ) (octets : List ℕ) (i : ℕ) → i < n → get_or (ids_in n octets) i 0 ≡ field_at (2 * i) 2 octets
  -- IDs come back from their octets, and octets from their IDs
  pub ids_back : (ids : List ℕ) → ((i : ℕ) → get_or ids i 0 < 2 ^ 16) → ids_in (length ids) (ids_octets ids) ≡ ids
  pub ids_again : (n : ℕ) (octets : List ℕ) → 2 * n ≤ length octets → Octets octets → ids_octets (ids_in n octets) ≡ part 0 (2 * n) octets
  -- so do settings, and a body
  pub back : (n : ℕ) (t : Settings) → Shaped n t → FieldsHold t → settings_in n (settings_body t) ≡ t
  pub again : (n : ℕ) (body : List ℕ) → length body ≡ body_length n → Octets body → settings_body (settings_in n body) ≡ body
  -- how long both are
  pub long : (n : ℕ) (t : Settings) → Shaped n t → length (settings_body t) ≡ body_length n
  pub shaped : (n : ℕ) (body : List ℕ) → body_length n ≤ length body → Shaped n (settings_in n body)
