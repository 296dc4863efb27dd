-- A loss session after one more reading. The paper, rule 7, and "Refusals": refusals 2 and 5. Definitions and statements only.
use Rattle.loss_reading.specs.Losses.{losses_of}
use Rattle.std.specs.Prelude.{ℕ, ◌+◌, ◌≡◌, true, not, [], ◌∷◌, ◌↔◌, eqb, ℤ, ◌+ℤ◌, Result, Ok, Err, Option, Some, None}
use Rattle.base_laws.specs.Tests.{choose}
use Rattle.loss_growth.specs.Growth.{loss_between}
use Rattle.loss_session.specs.declared.Readings.{Readings}
use Rattle.loss_session.specs.declared.LossSession.{LossSession}
use Rattle.loss_session.specs.Session.{LossEnd, near, far, sent_of, received_of, cleared_session, WellFormed, well_formed, most_intervals}
use Rattle.loss_reading.specs.declared.LossRefusal.{LossRefusal}
use Rattle.loss_reading.specs.declared.Losses.{Losses}
use Rattle.loss_reading.specs.declared.LossRefusal.TheVariants.{NotWellFormed, Full}
use Rattle.loss_reading.specs.declared.Updated.{Updated}

-- one direction's loss from an earlier reading to a later one
abbrev pub loss_on : LossEnd → Readings → Readings → ℤ
loss_on d earlier later = loss_between (sent_of d earlier) (sent_of d later) (received_of d earlier) (received_of d later)

abbrev pub unchanged : Result (Option Losses) LossRefusal → LossSession → Updated
unchanged answer s = record { answer = answer; session = s }

-- the first after a clear is only kept
abbrev pub first_of : LossSession → Readings → Updated
first_of s r = record { answer = Ok None; session = record { kept = 1; intervals = s.intervals; last = r; near = s.near; far = s.far } }

-- a later one ends an interval: each direction's loss is answered and added to its total
abbrev pub measured_of : LossSession → Readings → Updated
measured_of s r =
    record {
      answer = Ok (Some (losses_of (loss_on near s.last r) (loss_on far s.last r)));
      session = record {
        kept = s.kept;
        intervals = s.intervals + 1;
        last = r;
        near = s.near +ℤ loss_on near s.last r;
        far = s.far +ℤ loss_on far s.last r;
      };
    }

-- in this order: refusal 2, the first reading, refusal 5, an interval
unfoldable pub after_reading : LossSession → Readings → Updated
after_reading s r =
    choose (
    (not (well_formed s), unchanged (Err NotWellFormed) s)
    ∷ (eqb s.kept 0, first_of s r)
    ∷ (eqb s.intervals most_intervals, unchanged (Err Full) s)
    ∷ [])
    (measured_of s r)

-- when a session is well formed, that it stays so, and each refusal exactly where it is due, which leaves the session as it was
pub record Sessions : Type 0 where
  -- the test means the rules
  pub well : (s : LossSession) → (well_formed s ≡ true) ↔ WellFormed s
  pub cleared_well : WellFormed cleared_session
  -- one more reading leaves a well-formed session well formed
  pub stays : (s : LossSession) (r : Readings) → WellFormed s → WellFormed (after_reading s r).session
  -- refusal 2 exactly where a rule is broken, and 5 exactly where none is, a reading is kept and the intervals are all used
  pub refuses_2 : (s : LossSession) (r : Readings) → ((after_reading s r).answer ≡ Err NotWellFormed) ↔ (WellFormed s → ⊥)
  pub refuses_5 : (s : LossSession) (r : Readings)
      → ((after_reading s r).answer ≡ Err Full) ↔ (WellFormed s × (s.kept ≡ 1) × (s.intervals ≡ most_intervals))
  -- both leave the session as it was
  pub refused_2 : (s : LossSession) (r : Readings) → (WellFormed s → ⊥) → (after_reading s r).session ≡ s
  pub refused_5 : (s : LossSession) (r : Readings) → (after_reading s r).answer ≡ Err Full → (after_reading s r).session ≡ s
