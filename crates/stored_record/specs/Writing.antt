-- Writing a record. The paper, "Refusals": on writing, 4 comes before 3; a refused call leaves the buffer as it was; octets of the buffer
-- after a written record stay. Definitions and the statement only.
use Rattle.std.specs.Prelude.{ℕ, ◌+◌, ◌≤◌, ◌<◌, ◌≡◌, List, [], ◌∷◌, Bool, true, false, not, ◌||◌, ◌↔◌, ◌⊎◌, ltb, length, Result, Ok, Err}
use Rattle.base_laws.specs.Tests.{choose}
use Rattle.base_laws.specs.Lists.{laid}
use Rattle.base_laws.specs.Ended.{Wrote, wrote}
use Rattle.stored_record.specs.declared.RecordRefusal.{RecordRefusal}
use Rattle.stored_record.specs.declared.RecordRefusal.TheVariants.{BreaksRule, NoRoom}
use Rattle.stored_record.specs.declared.RecordTold.{RecordTold}
use Rattle.stored_record.specs.Record.{record_of}

-- refusal 4 where the values break a rule, or two octets cannot express the length; refusal 3; the record laid over the buffer's first
-- octets
unfoldable pub write_record : Bool → ℕ → List ℕ → List ℕ → Wrote (Result ℕ RecordRefusal)
write_record good kind body buffer =
    choose (
    (not good || ltb 65533 (length body), wrote (Err BreaksRule) buffer)
    ∷ (ltb (length buffer) (4 + length body), wrote (Err NoRoom) buffer)
    ∷ [])
    (wrote (Ok (4 + length body)) (laid 0 (record_of kind body) buffer))

-- ── in the paper's numbers ──

abbrev pub tell_record : ℕ → ℕ → RecordTold
tell_record refusal long = record { refusal = refusal; length = long }

unfoldable pub record_told : Result ℕ RecordRefusal → RecordTold
record_told (Err BreaksRule) = tell_record 4 0
record_told (Err NoRoom) = tell_record 3 0
record_told (Ok n) = tell_record 0 n

-- the same from what is given alone
unfoldable pub record_numbers : Bool → List ℕ → List ℕ → RecordTold
record_numbers good body buffer =
    choose (
    (not good || ltb 65533 (length body), tell_record 4 0)
    ∷ (ltb (length buffer) (4 + length body), tell_record 3 0)
    ∷ [])
    (tell_record 0 (4 + length body))

-- each refusal of a write exactly where it is due, and then the buffer is as it was and the length 0; else the record is written and the
-- octets behind it stay
pub record Writes : Type 0 where
  -- each answer exactly where its line holds and none before it
  pub refuses_4 : (good : Bool) (kind : ℕ) (body buffer : List ℕ)
      → ((write_record good kind body buffer).answer ≡ Err BreaksRule) ↔ ((good ≡ false) ⊎ (65533 < length body))
  pub refuses_3 : (good : Bool) (kind : ℕ) (body buffer : List ℕ)
      → ((write_record good kind body buffer).answer ≡ Err NoRoom) ↔ ((good ≡ true) × (length body ≤ 65533) × (length buffer < 4 + length body))
  -- neither changes the buffer
  pub refused : (good : Bool) (kind : ℕ) (body buffer : List ℕ)
      → (((record_told (write_record good kind body buffer).answer).refusal ≡ 0) → ⊥) → (write_record good kind body buffer).buffer ≡ buffer
  -- any other record is written, and the octets behind it stay
  pub writes : (kind : ℕ) (body buffer : List ℕ) → length body ≤ 65533 → 4 + length body ≤ length buffer
      → write_record true kind body buffer ≡ wrote (Ok (4 + length body)) (laid 0 (record_of kind body) buffer)
  -- the answer has these numbers; beside a refusal the length is 0
  pub agree : (good : Bool) (kind : ℕ) (body buffer : List ℕ) → record_told (write_record good kind body buffer).answer ≡ record_numbers good body buffer
  pub zeros : (answer : Result ℕ RecordRefusal) → (((record_told answer).refusal ≡ 0) → ⊥) → (record_told answer).length ≡ 0
