-- The stored record of kind 1, settings, read and written. The paper, "Stored records" and "Refusals": reading gives 7, writing 4 and then
-- 3; any other value beside a refusal is 0; what is written reads back, and what is read writes back as the same octets. Definitions and
-- the statement only.
use Rattle.std.specs.Prelude.{ℕ, ◌+◌, ◌≤◌, ◌<◌, ◌≡◌, List, [], ◌∷◌, ◌++◌, not, ◌↔◌, ◌⊎◌, length, replicate, Result, Ok, Err}
use Rattle.base_laws.specs.Ended.{Wrote, wrote}
use Rattle.base_laws.specs.Tests.{choose}
use Rattle.base_laws.specs.Lists.{part, laid}
use Rattle.base_octets.specs.Octets.{Octets}
use Rattle.state_settings.specs.Settings.{Settings, slots, settings_of, Shaped, name_octets, set_words}
use Rattle.state_settings.specs.Valid.{Valid, valid}
use Rattle.stored_record.specs.declared.RecordRefusal.TheVariants as stored
use Rattle.stored_record.specs.declared.RecordTold.{RecordTold}
use Rattle.stored_record.specs.Record.{record_of, is_record, IsRecord, NoRecord}
use Rattle.stored_record.specs.Writing.{write_record, record_told, record_numbers}
use Rattle.stored_settings_body.specs.declared.SettingsRead.{SettingsRead}
use Rattle.stored_settings_body.specs.Body.{settings_body, body_length, settings_in, FieldsHold}
use Rattle.stored_settings_body.specs.Lying.{given}
use Rattle.stored_record.specs.declared.RecordRefusal.{RecordRefusal}

-- the octets of a body with as many slots as a box has, and of the whole record
abbrev pub body_size : ℕ
body_size = body_length slots

abbrev pub record_size : ℕ
record_size = 4 + body_size

-- the record of settings
abbrev pub settings_record : Settings → List ℕ
settings_record t = record_of 1 (settings_body t)

-- the settings in the octets of a record, behind the four of its head
abbrev pub settings_at : List ℕ → Settings
settings_at octets = settings_in slots (part 4 body_size octets)

-- ── reading ──

-- refusal 7, and every value 0
abbrev pub refused_read : SettingsRead
refused_read = record { refusal = 7; set = replicate set_words 0; names = replicate name_octets 0; ids = replicate slots 0 }

-- the settings in the arrays of a read
abbrev pub settings_read : SettingsRead → Settings
settings_read r = settings_of r.set r.names r.ids

-- refused where there is no whole record of kind 1 with such a body, or its settings break a rule; else they are given
unfoldable pub read_settings : List ℕ → SettingsRead
read_settings octets =
    choose (
    (not (is_record 1 body_size octets), refused_read)
    ∷ (not (valid (settings_at octets)), refused_read)
    ∷ [])
    (given (settings_at octets))

-- ── writing ──

-- the record of the settings, if they keep the rules
unfoldable pub write_settings : Settings → List ℕ → Wrote (Result ℕ RecordRefusal)
write_settings t buffer = write_record (valid t) 1 (settings_body t) buffer

-- and its numbers
abbrev pub settings_written_numbers : Settings → List ℕ → RecordTold
settings_written_numbers t buffer = record_numbers (valid t) (settings_body t) buffer

-- kind 1, 85 octets; no function needs anything. Reading gives 7 exactly where there is no whole record of kind 1 with a body of 81
-- octets, or its settings break a rule, and then zeros beside it; octets behind the record are not looked at. Writing gives 4, then 3,
-- exactly where they are due, as `stored_record` says. A record written reads back, and one that is read writes back as the same 85
-- octets
pub record SettingsRecords : Type 0 where
  -- its length field holds 83
  pub length_is : 2 + body_size ≡ 83
  -- no number of valid settings is too large for its field
  pub fits : (t : Settings) → Valid t → Shaped slots t → FieldsHold t
  -- settings that a body holds, valid or not, are read off their arrays as they are
  pub taken : (body : List ℕ) → body_size ≤ length body → settings_read (given (settings_in slots body)) ≡ settings_in slots body
  -- 7 exactly where the head is wrong, the record is cut short, or the settings break a rule; and beside it every value is 0
  pub refuses_7 : (octets : List ℕ) → ((read_settings octets).refusal ≡ 7) ↔ (NoRecord 1 body_size octets ⊎ (Valid (settings_at octets) → ⊥))
  pub zeros : (octets : List ℕ) → (read_settings octets).refusal ≡ 7 → read_settings octets ≡ refused_read
  -- else there is no refusal, and the settings in the record are given
  pub gives : (octets : List ℕ) → IsRecord 1 body_size octets → Valid (settings_at octets)
      → ((read_settings octets).refusal ≡ 0) × (settings_read (read_settings octets) ≡ settings_at octets)
  -- settings that are written read back, whatever is behind them, and so from the buffer that they are written into
  pub written : (t : Settings) (rest : List ℕ) → Valid t → Shaped slots t
      → ((read_settings (settings_record t ++ rest)).refusal ≡ 0) × (settings_read (read_settings (settings_record t ++ rest)) ≡ t)
  pub back : (t : Settings) (buffer : List ℕ) → Valid t → Shaped slots t → record_size ≤ length buffer → settings_read (read_settings (write_settings t buffer).buffer) ≡ t
  -- settings that are read keep the rules, and write back as the same octets
  pub kept : (octets : List ℕ) → (read_settings octets).refusal ≡ 0 → Valid (settings_read (read_settings octets))
  pub again : (octets : List ℕ) → Octets octets → (read_settings octets).refusal ≡ 0
      → part 0 record_size octets ≡ settings_record (settings_read (read_settings octets))
  -- what is behind the record is not looked at
  pub front_alone : (octets rest : List ℕ) → record_size ≤ length octets → read_settings (octets ++ rest) ≡ read_settings octets
  -- 4 exactly where a rule is broken, else 3 exactly where the buffer is shorter than the record; neither changes it
  pub refuses_4 : (t : Settings) (buffer : List ℕ) → Shaped slots t → ((write_settings t buffer).answer ≡ Err stored.BreaksRule) ↔ (Valid t → ⊥)
  pub refuses_3 : (t : Settings) (buffer : List ℕ) → Shaped slots t
      → ((write_settings t buffer).answer ≡ Err stored.NoRoom) ↔ (Valid t × (length buffer < record_size))
  pub refused : (t : Settings) (buffer : List ℕ) → ((record_told (write_settings t buffer).answer).refusal ≡ 0 → ⊥) → (write_settings t buffer).buffer ≡ buffer
  -- any other settings are written, and the octets behind their record stay
  pub writes : (t : Settings) (buffer : List ℕ) → Valid t → Shaped slots t → record_size ≤ length buffer
      → write_settings t buffer ≡ wrote (Ok record_size) (laid 0 (settings_record t) buffer)
