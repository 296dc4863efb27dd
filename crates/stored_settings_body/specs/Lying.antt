-- How settings are laid out in memory: the words but the IDs, the names, the IDs. Definitions and the statement only.
use Rattle.std.specs.Prelude.{ℕ, ◌≡◌, List, [], ◌∷◌, ◌++◌, length}
use Rattle.state_settings.specs.Settings.{Settings, settings_of, Shaped, set_words, name_octets}
use Rattle.stored_settings_body.specs.declared.SettingsRead.{SettingsRead}

-- level, MEP ID, period code, peer count
abbrev pub set_of : Settings → List ℕ
set_of t = t.level ∷ t.mep ∷ t.period ∷ t.count ∷ []

-- own address, loss peer, MEG ID
abbrev pub names_of : Settings → List ℕ
names_of t = t.own ++ t.losspeer ++ t.meg

-- no refusal, and the settings in their arrays: an equation for each
abbrev pub given : Settings → SettingsRead
given t = record { refusal = 0; set = set_of t; names = names_of t; ids = t.ids }

-- settings are laid out in their arrays in one way only, for any number of slots
pub record Lying : Type 0 where
  -- settings of these lengths are read off as what they are
  pub back : (n : ℕ) (t : Settings) → Shaped n t → settings_of (set_of t) (names_of t) t.ids ≡ t
  -- and arrays of their lengths hold nothing else: they are laid out in one way
  pub again : (set names ids : List ℕ) → length set ≡ set_words → length names ≡ name_octets
      → (set_of (settings_of set names ids) ≡ set) × (names_of (settings_of set names ids) ≡ names)
  -- names of their length give them theirs
  pub shaped : (set names ids : List ℕ) → length names ≡ name_octets → Shaped (length ids) (settings_of set names ids)
