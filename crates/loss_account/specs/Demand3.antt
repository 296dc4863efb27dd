-- Demand 3 of the order, for a loss session: a predicate on any step, which takes a session and four readings and gives an answer and a
-- session. It names no rule by which a step might count: only the cleared session, the paper's numbers of an answer, and the account.
-- Definitions and statements only.
--
-- The letters: f is a step, rs a list of readings, ts the true counts that they show, one for each reading, and d a direction: near is to
-- us, far is from us.
--
-- `Demand3`, `Agrees`, `Seen`, `seen`, `accounted`, `answers` and `side` are names of paper_loss too. Here they are about a session alone,
-- which is given a list of readings; there they are about a box, which is given calls, and whose readings are found in its calls. Here the
-- first reading is answered with "kept"; there the first reply is answered with losses of 0 and 0. There are two because the lent session
-- and a month worked again have no box; the proof of the other one uses this one.
use Rattle.loss_reading.specs.Losses.{losses_of}
use Rattle.std.specs.Prelude.{ℕ, ◌-◌, ◌%◌, ◌^◌, ◌≤◌, ◌<◌, ◌≡◌, List, [], ◌∷◌, map, ℤ, length, Result, Ok, Err, Option, Some, None}
use Rattle.base_clock.specs.Run.{after}
use Rattle.loss_session.specs.declared.Readings.{Readings}
use Rattle.loss_session.specs.declared.LossSession.{LossSession}
use Rattle.loss_reading.specs.declared.LossRefusal.{LossRefusal}
use Rattle.loss_reading.specs.declared.Losses.{Losses}
use Rattle.loss_reading.specs.declared.LossRefusal.TheVariants.{NotWellFormed, Full}
use Rattle.loss_reading.specs.declared.Updated.{Updated}
use Rattle.loss_session.specs.Session.{LossEnd, near, far, sent_of, received_of, total_of, cleared_session, most_readings}
use Rattle.loss_account.specs.Account.{Truth, Sound, lost, losses, total}

abbrev pub Step : Type 0
Step = LossSession → Readings → Updated

-- a run: each reading is given to the session that the last one left
unfoldable pub answers : Step → LossSession → List Readings → List (Result (Option Losses) LossRefusal)
answers f s [] = []
answers f s (r ∷ rs) = (f s r).answer ∷ answers f (f s r).session rs

abbrev pub leaves : Step → LossSession → List Readings → LossSession
leaves f = after (λ s r. (f s r).session)

-- ── one direction ──

-- what an answer says of one direction
pub data Seen : Type 0 where
  refused : ℕ → Seen
  kept : Seen
  loss : ℤ → Seen

abbrev pub seen : LossEnd → Result (Option Losses) LossRefusal → Seen
seen d (Err NotWellFormed) = refused 2
seen d (Err Full) = refused 5
seen d (Ok None) = kept
seen near (Ok (Some l)) = loss l.near
seen far (Ok (Some l)) = loss l.far

-- what the account sees: the first reading is only kept, each later one ends an interval
unfoldable pub accounted : List Truth → List Seen
accounted [] = []
accounted (t ∷ ts) = kept ∷ map loss (losses t ts)

-- the readings show the true counts of direction d, each modulo 2^32; of the other direction they may show anything
abbrev pub Shows : LossEnd → List Readings → List Truth → Type 0
Shows d [] [] = Unit {0}
Shows d [] (t ∷ ts) = ⊥
Shows d (r ∷ rs) [] = ⊥
Shows d (r ∷ rs) (t ∷ ts) = (sent_of d r ≡ t.sent % 2 ^ 32) × (received_of d r ≡ t.received % 2 ^ 32) × Shows d rs ts

-- one direction of a run from a cleared session agrees with the account
pub record Agrees (f : Step) (d : LossEnd) (rs : List Readings) (ts : List Truth) : Type 0 where
  pub results : map (seen d) (answers f cleared_session rs) ≡ accounted ts
  pub totals : total_of d (leaves f cleared_session rs) ≡ total ts

-- demand 3 for a session, on any step, near and far each by itself
pub record Demand3 (f : Step) : Type 0 where
  -- near and far each agree with the account: if at most 1,000,000,001 readings show true counts modulo 2^32 (`Shows`), and none of these
  -- falls or grows by 2^32 or more from one reading to the next (`Sound`); of the other direction's counts nothing is assumed
  pub side : (d : LossEnd) (rs : List Readings) (ts : List Truth) → length rs ≤ most_readings → Shows d rs ts → Sound ts → Agrees f d rs ts
  -- the intervals are one fewer than the readings, or 0 if there were none, whatever the readings
  pub intervals : (rs : List Readings) → length rs ≤ most_readings → (leaves f cleared_session rs).intervals ≡ length rs - 1
  -- after 1,000,000,001 readings every further one is refused with 5 and changes nothing, whatever the readings
  pub later : (rs : List Readings) (r : Readings) → most_readings ≤ length rs
      → f (leaves f cleared_session rs) r ≡ record { answer = Err Full; session = leaves f cleared_session rs }

-- ── both directions ──

-- the four true counts of a reading, of any size
pub record Counts : Type 0 where
  pub txf : ℕ
  pub rxf : ℕ
  pub txb : ℕ
  pub ours : ℕ

abbrev pub truth_of : LossEnd → Counts → Truth
truth_of near t = record { sent = t.txb; received = t.ours }
truth_of far t = record { sent = t.txf; received = t.rxf }

-- what is read of them: each modulo 2^32
abbrev pub shown : Counts → Readings
shown t = record { txf = t.txf % 2 ^ 32; rxf = t.rxf % 2 ^ 32; txb = t.txb % 2 ^ 32; ours = t.ours % 2 ^ 32 }

-- no count falls, none grows by 2^32 or more
abbrev pub Steady : List Counts → Type 0
Steady ts = (d : LossEnd) → Sound (map (truth_of d) ts)

-- the account's answers: the first reading kept, then both losses of each interval
unfoldable pub measurements : Counts → List Counts → List (Result (Option Losses) LossRefusal)
measurements t [] = []
measurements t (u ∷ us) = Ok (Some (losses_of (lost (truth_of near t) (truth_of near u)) (lost (truth_of far t) (truth_of far u)))) ∷ measurements u us

unfoldable pub accounted_both : List Counts → List (Result (Option Losses) LossRefusal)
accounted_both [] = []
accounted_both (t ∷ ts) = Ok None ∷ measurements t ts

pub record BothAgree (f : Step) (ts : List Counts) : Type 0 where
  pub results : answers f cleared_session (map shown ts) ≡ accounted_both ts
  pub totals : (d : LossEnd) → total_of d (leaves f cleared_session (map shown ts)) ≡ total (map (truth_of d) ts)
  pub intervals : (leaves f cleared_session (map shown ts)).intervals ≡ length ts - 1

-- the same of near and far at once, from four true counts
abbrev pub Demand3Both : Step → Type 0
Demand3Both f = (ts : List Counts) → length ts ≤ most_readings → Steady ts → BothAgree f ts

-- ── no choice is left ──

-- readings of 32 bits
abbrev pub Small : List Readings → Type 0
Small [] = Unit {0}
Small (r ∷ rs) = ((d : LossEnd) → (sent_of d r < 2 ^ 32) × (received_of d r < 2 ^ 32)) × Small rs

-- two steps say and keep the same
pub record Alike (f g : Step) (rs : List Readings) : Type 0 where
  pub results : answers f cleared_session rs ≡ answers g cleared_session rs
  pub totals : (d : LossEnd) → total_of d (leaves f cleared_session rs) ≡ total_of d (leaves g cleared_session rs)
  pub intervals : (leaves f cleared_session rs).intervals ≡ (leaves g cleared_session rs).intervals

-- no choice is left: two steps that meet the demand give the same answers, totals and intervals to any 32-bit readings
abbrev pub Tight : Type 0
Tight = (f g : Step) → Demand3 f → Demand3 g → (rs : List Readings) → length rs ≤ most_readings → Small rs → Alike f g rs
