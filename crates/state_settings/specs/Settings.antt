-- What a box is set to, and where it is kept. The paper, "Numbers". Definitions only.
use Rattle.std.specs.Prelude.{ℕ, ◌+◌, ◌≡◌, List, length, get_or}
use Rattle.std.specs.Borrow.{Bor}
use denote.Triple.Both.{Both}
use Rattle.base_laws.specs.Lists.{part}

-- how many peers a box has room for: as many slots as the array of IDs has
abbrev pub slots : ℕ
slots = 8

-- how many words the settings are: level, MEP ID, period code, peer count
abbrev pub set_words : ℕ
set_words = 4

-- how many octets an address has, and a MEG ID
abbrev pub address_octets : ℕ
address_octets = 6

abbrev pub meg_octets : ℕ
meg_octets = 48

-- at which octet of the names each begins: our own address, the loss peer's, the MEG ID; and how many octets they are together
abbrev pub own_from : ℕ
own_from = 0

abbrev pub losspeer_from : ℕ
losspeer_from = own_from + address_octets

abbrev pub meg_from : ℕ
meg_from = losspeer_from + address_octets

abbrev pub name_octets : ℕ
name_octets = meg_from + meg_octets

pub record Settings : Type 0 where
  -- 0 to 7
  pub level : ℕ
  -- our own MEP ID
  pub mep : ℕ
  -- the period's code
  pub period : ℕ
  -- how many slots are used
  pub count : ℕ
  -- our own address, the loss peer's, and the MEG ID
  pub own : List ℕ
  pub losspeer : List ℕ
  pub meg : List ℕ
  -- the peers' MEP IDs, a slot for each that there is room for
  pub ids : List ℕ

-- an address among the names
abbrev pub address_at : ℕ → List ℕ → List ℕ
address_at at names = part at address_octets names

-- what the names hold: our own address, the loss peer's, the MEG ID
abbrev pub own_named : List ℕ → List ℕ
own_named names = address_at own_from names

abbrev pub losspeer_named : List ℕ → List ℕ
losspeer_named names = address_at losspeer_from names

abbrev pub meg_named : List ℕ → List ℕ
meg_named names = part meg_from meg_octets names

-- the settings in words, names and IDs
abbrev pub settings_of : List ℕ → List ℕ → List ℕ → Settings
settings_of set names ids = record {
  level = get_or set 0 0;
  mep = get_or set 1 0;
  period = get_or set 2 0;
  count = get_or set 3 0;
  own = own_named names;
  losspeer = losspeer_named names;
  meg = meg_named names;
  ids = ids;
}

-- an array that is lent to a call, as it is when the call begins and when it ends
abbrev pub Lent : Type 0
Lent = Both (Bor (List ℕ)) (Bor (List ℕ))

-- the settings that a call is lent, which no call writes
abbrev pub lent_settings : Lent → Lent → Lent → Settings
lent_settings set names ids = settings_of set.entry.now names.entry.now ids.entry.now

-- settings of n slots have the lengths in which they are passed in
pub record Shaped (n : ℕ) (t : Settings) : Type 0 where
  pub own : length t.own ≡ address_octets
  pub losspeer : length t.losspeer ≡ address_octets
  pub meg : length t.meg ≡ meg_octets
  pub ids : length t.ids ≡ n
