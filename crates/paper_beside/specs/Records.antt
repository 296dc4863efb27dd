-- Stored records, as the paper's lines: "Stored records", and refusals 7, 4 and 3. Each line holds its whole condition and its whole
-- outcome, the answer and the buffer. Definitions and the statement only.
use Rattle.std.specs.Prelude.{ℕ, ◌≤◌, ◌<◌, ◌≡◌, List, [], cond, eqb, length, Result, Ok, Err, Option, Some, None}
use Rattle.base_laws.specs.Lists.{laid}
use Rattle.state_settings.specs.Settings.{Settings, slots, Shaped}
use Rattle.state_settings.specs.Valid.{Valid}
use Rattle.stored_record.specs.declared.RecordRefusal.{RecordRefusal}
use Rattle.stored_record.specs.declared.RecordRefusal.TheVariants as stored
use Rattle.stored_record.specs.Record.{IsRecord, NoRecord}
use Rattle.stored_settings.specs.SettingsRecord.{settings_record, settings_at, settings_read, read_settings, write_settings}
use Rattle.stored_line.specs.declared.LossLine.{LossLine}
use Rattle.stored_line.specs.Line.{KeepsRules, line_record, line_in}
use Rattle.stored_line.specs.LineCalls.{read_line, write_line}

pub data RecordCall : Type 0 where
  read-settings : List ℕ → RecordCall
  write-settings : Settings → List ℕ → RecordCall
  read-line : List ℕ → RecordCall
  write-line : LossLine → List ℕ → RecordCall

pub data RecordTells : Type 0 where
  refused : ℕ → RecordTells
  settings : Settings → RecordTells
  line : LossLine → RecordTells
  written : ℕ → RecordTells

-- the answer, and the buffer that was passed in (none for a read)
pub record RecordLeft : Type 0 where
  pub answer : RecordTells
  pub buffer : List ℕ

abbrev pub leaving : RecordTells → List ℕ → RecordLeft
leaving answer buffer = record { answer = answer; buffer = buffer }

-- settings have the lengths that their arrays have
abbrev pub Handed : RecordCall → Type 0
Handed (read-settings octets) = Unit {0}
Handed (write-settings s b) = Shaped slots s
Handed (read-line octets) = Unit {0}
Handed (write-line l b) = Unit {0}

pub data RecordSaid : RecordCall → RecordLeft → Type 0 where
  -- settings are kind 1, with 81 octets of body: wrong or cut short, or a rule broken, else they are given
  settings_7_record : (octets : List ℕ) → NoRecord 1 81 octets → RecordSaid (read-settings octets) (leaving (refused 7) [])
  settings_7_rule : (octets : List ℕ) → (Valid (settings_at octets) → ⊥) → RecordSaid (read-settings octets) (leaving (refused 7) [])
  settings_given : (octets : List ℕ) → IsRecord 1 81 octets → Valid (settings_at octets) → RecordSaid (read-settings octets) (leaving (settings (settings_at octets)) [])
  -- on writing 4 comes before 3; what is behind the 85 octets stays
  settings_4 : (t : Settings) (b : List ℕ) → (Valid t → ⊥) → RecordSaid (write-settings t b) (leaving (refused 4) b)
  settings_3 : (t : Settings) (b : List ℕ) → Valid t → length b < 85 → RecordSaid (write-settings t b) (leaving (refused 3) b)
  settings_written : (t : Settings) (b : List ℕ) → Valid t → 85 ≤ length b → RecordSaid (write-settings t b) (leaving (written 85) (laid 0 (settings_record t) b))
  -- a loss line is kind 2, with 20 octets of body
  line_7_record : (octets : List ℕ) → NoRecord 2 20 octets → RecordSaid (read-line octets) (leaving (refused 7) [])
  line_7_rule : (octets : List ℕ) → (KeepsRules (line_in octets) → ⊥) → RecordSaid (read-line octets) (leaving (refused 7) [])
  line_given : (octets : List ℕ) → IsRecord 2 20 octets → KeepsRules (line_in octets) → RecordSaid (read-line octets) (leaving (line (line_in octets)) [])
  line_4 : (l : LossLine) (b : List ℕ) → (KeepsRules l → ⊥) → RecordSaid (write-line l b) (leaving (refused 4) b)
  line_3 : (l : LossLine) (b : List ℕ) → KeepsRules l → length b < 24 → RecordSaid (write-line l b) (leaving (refused 3) b)
  line_written : (l : LossLine) (b : List ℕ) → KeepsRules l → 24 ≤ length b → RecordSaid (write-line l b) (leaving (written 24) (laid 0 (line_record l) b))

-- ── ours, made of the definitions that the contracts name ──

abbrev pub write_tells : Result ℕ RecordRefusal → RecordTells
write_tells (Err stored.BreaksRule) = refused 4
write_tells (Err stored.NoRoom) = refused 3
write_tells (Ok n) = written n

abbrev pub line_tells : Option LossLine → RecordTells
line_tells None = refused 7
line_tells (Some l) = line l

abbrev pub our_records : RecordCall → RecordLeft
our_records (read-settings octets) = leaving (cond (eqb (read_settings octets).refusal 0) (settings (settings_read (read_settings octets))) (refused (read_settings octets).refusal)) []
our_records (write-settings s b) = leaving (write_tells (write_settings s b).answer) (write_settings s b).buffer
our_records (read-line octets) = leaving (line_tells (read_line octets)) []
our_records (write-line l b) = leaving (write_tells (write_line l b).answer) (write_line l b).buffer

-- ── what follows the paper ──

-- whatever the paper says of a call on records, R leaves
pub record FollowsRecords (R : RecordCall → RecordLeft) : Type 0 where
  pub follows : (c : RecordCall) (o : RecordLeft) → Handed c → RecordSaid c o → R c ≡ o

-- our functions on records leave what the paper's lines say, which is something of every call and never two things; so any two that
-- follow them leave the same; one that refuses everything and one that writes nothing do not follow them
pub record RecordsFollow : Type 0 where
  pub ours : FollowsRecords our_records
  -- it says something of every call, and never two things; so any two that follow it leave the same
  pub says : (c : RecordCall) → Handed c → RecordSaid c (our_records c)
  pub agrees : (c : RecordCall) (o p : RecordLeft) → Handed c → RecordSaid c o → RecordSaid c p → o ≡ p
  pub same : (R Q : RecordCall → RecordLeft) → FollowsRecords R → FollowsRecords Q → (c : RecordCall) → Handed c → R c ≡ Q c
  -- one that refuses everything, and one that writes nothing, do not follow it
  pub refuses_all : (R : RecordCall → RecordLeft) → FollowsRecords R → ((c : RecordCall) → (n : ℕ) × ((R c).answer ≡ refused n)) → ⊥
  pub writes_nothing : (R : RecordCall → RecordLeft) → FollowsRecords R → ((l : LossLine) (b : List ℕ) → (R (write-line l b)).buffer ≡ b) → ⊥
