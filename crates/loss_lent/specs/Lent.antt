-- A session that is lent: the same rule, in the paper's numbers. Definitions and statements only.
use Rattle.std.specs.Prelude.{◌≡◌, List, [], ◌∷◌, map}
use Rattle.loss_session.specs.declared.Readings.{Readings}
use Rattle.loss_session.specs.declared.LossSession.{LossSession}
use Rattle.loss_reading.specs.declared.LossTold.{LossTold}
use Rattle.loss_reading.specs.Reading.{after_reading}
use Rattle.loss_reading.specs.Told.{loss_told, loss_numbers}
use Rattle.loss_account.specs.Demand3.{answers, leaves}
use Rattle.loss_lent.specs.declared.Answered.{Answered}

-- one more reading, in numbers
abbrev pub reading_of : LossSession → Readings → Answered
reading_of s r = record { told = loss_numbers s r; session = (after_reading s r).session }

-- what a lent session and a reading are answered, and what is there then
abbrev pub Lent : LossSession → Readings → LossTold → LossSession → Type 0
Lent before r t then = (t ≡ (reading_of before r).told) × (then ≡ (reading_of before r).session)

-- any lent call, as a contract reads: the session before, four readings, what is answered, and the session after
abbrev pub Lending : Type 1
Lending = LossSession → Readings → LossTold → LossSession → Type 0

-- a run of lent calls: the readings given, what each was answered, and the session before and after
pub data LentRun (L : Lending) : LossSession → List Readings → List LossTold → LossSession → Type 0 where
  none : (s : LossSession) → LentRun L s [] [] s
  more : {s m e : LossSession} {r : Readings} {t : LossTold} {rs : List Readings} {ts : List LossTold} → L s r t m → LentRun L m rs ts e
      → LentRun L s (r ∷ rs) (t ∷ ts) e

-- one outcome of a lent call; a run of them gives the numbers of the rule by value and leaves its session
pub record Lends : Type 0 where
  -- one answer, and one content of the memory
  pub one : (s : LossSession) (r : Readings) (t t' : LossTold) (e e' : LossSession) → Lent s r t e → Lent s r t' e' → (t ≡ t') × (e ≡ e')
  -- a run gives the numbers of the session's rule by value, and leaves its session: so what demand 3 says of the rule, it says of the run
  pub runs : (s : LossSession) (rs : List Readings) (ts : List LossTold) (e : LossSession) → LentRun Lent s rs ts e
      → (ts ≡ map loss_told (answers after_reading s rs)) × (e ≡ leaves after_reading s rs)
