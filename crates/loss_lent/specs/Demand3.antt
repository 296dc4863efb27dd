-- Demand 3 of the order for a session that is lent, as a predicate on any lent call. It names no rule by which a call might count: only the
-- cleared session, the true counts of the readings, and the account. Definitions and statements only.
use Rattle.std.specs.Prelude.{◌-◌, ◌≤◌, ◌≡◌, List, map, length}
use Rattle.loss_session.specs.declared.Readings.{Readings}
use Rattle.loss_session.specs.declared.LossSession.{LossSession}
use Rattle.loss_session.specs.Session.{LossEnd, total_of, cleared_session, most_readings}
use Rattle.loss_reading.specs.declared.LossTold.{LossTold}
use Rattle.loss_reading.specs.Told.{loss_told, refused}
use Rattle.loss_account.specs.Account.{total}
use Rattle.loss_account.specs.Demand3.{Counts, truth_of, shown, Steady, accounted_both, Small}
use Rattle.loss_lent.specs.Lent.{Lent, Lending, LentRun}

-- what was answered and what is held agree with the account in unlimited whole numbers: near and far of each interval, sent less received
-- with its sign, and 0 and 0 of the first reading; both totals since the first reading; one interval fewer than readings, or 0 if there
-- were none
pub record LentAgrees (ts : List Counts) (said : List LossTold) (e : LossSession) : Type 0 where
  pub results : said ≡ map loss_told (accounted_both ts)
  pub totals : (d : LossEnd) → total_of d e ≡ total (map (truth_of d) ts)
  pub intervals : e.intervals ≡ length ts - 1

-- the demand
pub record LentDemand3 (L : Lending) : Type 0 where
  -- there is an answer, whatever the session holds and whatever is read
  pub answered : (s : LossSession) (r : Readings) → (t : LossTold) × (e : LossSession) × L s r t e
  -- take any run since the session was cleared, each call given the session that the last one left, with at most 1,000,000,001 readings:
  -- let each of the four be a true count modulo 2^32, and let none fall, or grow by 2^32 or more, from one reading to the next
  pub agrees : (ts : List Counts) (said : List LossTold) (e : LossSession) → length ts ≤ most_readings → Steady ts
      → LentRun L cleared_session (map shown ts) said e → LentAgrees ts said e
  -- no further reading is accepted: it is refused with 5 and leaves the session
  pub later : (rs : List Readings) (said : List LossTold) (s : LossSession) (r : Readings) (t : LossTold) (e : LossSession)
      → most_readings ≤ length rs → LentRun L cleared_session rs said s → L s r t e → (t ≡ refused 5) × (e ≡ s)

-- two runs were answered the same, and hold the same totals and intervals
pub record LentAlike (said said' : List LossTold) (e e' : LossSession) : Type 0 where
  pub results : said ≡ said'
  pub totals : (d : LossEnd) → total_of d e ≡ total_of d e'
  pub intervals : e.intervals ≡ e'.intervals

-- the lent session meets demand 3 (`loss_lent.LentDemand3`); no choice is left: any two that meet it give the same answers and totals,
-- whatever readings of 32 bits they are given
pub record LentMeets : Type 1 where
  pub ours : LentDemand3 Lent
  pub tight : (L M : Lending) → LentDemand3 L → LentDemand3 M → (rs : List Readings) (said said' : List LossTold) (e e' : LossSession)
      → length rs ≤ most_readings → Small rs → LentRun L cleared_session rs said e → LentRun M cleared_session rs said' e'
      → LentAlike said said' e e'
