-- The lent session, as the paper's lines: rule 7, last sentence, with refusals 2 and 5. Each line holds its whole condition and its whole
-- outcome: what is answered, and the session that is there then. Definitions and the statement only.
use Rattle.std.specs.Prelude.{◌<◌, ◌≡◌, pos}
use Rattle.loss_session.specs.declared.Readings.{Readings}
use Rattle.loss_session.specs.declared.LossSession.{LossSession}
use Rattle.loss_session.specs.Session.{near, far, WellFormed, most_intervals}
use Rattle.loss_reading.specs.declared.LossTold.{LossTold}
use Rattle.loss_reading.specs.Reading.{loss_on, first_of, measured_of}
use Rattle.loss_reading.specs.Told.{refused, results}
use Rattle.loss_lent.specs.Lent.{Lending, Lent}

-- `LentSaid s r t e`: a session s, given the reading r, is answered t, and e is there then
pub data LentSaid (s : LossSession) (r : Readings) : LossTold → LossSession → Type 0 where
  -- 2: it breaks a rule on intervals, reading or totals
  lent_2 : (WellFormed s → ⊥) → LentSaid s r (refused 2) s
  -- the first after a clear is only kept, and its two results are 0
  lent_first : WellFormed s → s.kept ≡ 0 → LentSaid s r (results (pos 0) (pos 0)) (first_of s r).session
  -- later ones end an interval
  lent_later : WellFormed s → s.kept ≡ 1 → s.intervals < most_intervals
      → LentSaid s r (results (loss_on near s.last r) (loss_on far s.last r)) (measured_of s r).session
  -- 5: it would be interval 1,000,000,001
  lent_5 : WellFormed s → s.kept ≡ 1 → s.intervals ≡ most_intervals → LentSaid s r (refused 5) s

-- whatever the paper says of a lent session, L answers and leaves
abbrev pub FollowsLent : Lending → Type 0
FollowsLent L = (s : LossSession) (r : Readings) (t u : LossTold) (e f : LossSession) → L s r t e → LentSaid s r u f → (t ≡ u) × (e ≡ f)

-- the lent session leaves what the paper's four lines on it say (`loss_lent.LentSaid`), and they say something of every session and
-- reading
pub record LentFollows : Type 0 where
  -- ours does, and the paper says something of every session and reading
  pub ours : FollowsLent Lent
  pub says : (s : LossSession) (r : Readings) → (t : LossTold) × (e : LossSession) × LentSaid s r t e
