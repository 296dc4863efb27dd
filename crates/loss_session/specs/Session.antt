-- A loss session: cleared, and well formed. The paper, rule 7, and "Refusals". Definitions only.
use Rattle.std.specs.Prelude.{ℕ, ◌+◌, ◌*◌, ◌≤◌, ◌≡◌, Bool, ◌&&◌, ◌||◌, leb, eqb, ℤ, pos, nat_abs}
use Rattle.loss_session.specs.declared.Readings.{Readings}
use Rattle.loss_session.specs.declared.LossSession.{LossSession}

-- TxFCf, RxFCf, TxFCb and our received count, in the paper's order
abbrev pub readings : ℕ → ℕ → ℕ → ℕ → Readings
readings txf rxf txb ours = record { txf = txf; rxf = rxf; txb = txb; ours = ours }

-- the two directions of a link: what the peer sent and we received, and what we sent and the peer received
pub data LossEnd : Type 0 where
  near : LossEnd
  far : LossEnd

abbrev pub sent_of : LossEnd → Readings → ℕ
sent_of near r = r.txb
sent_of far r = r.txf

abbrev pub received_of : LossEnd → Readings → ℕ
received_of near r = r.ours
received_of far r = r.rxf

abbrev pub total_of : LossEnd → LossSession → ℤ
total_of near s = s.near
total_of far s = s.far

-- ── cleared and well formed ──

abbrev pub no_readings : Readings
no_readings = record { txf = 0; rxf = 0; txb = 0; ours = 0 }

-- a clear forgets the reading and sets both totals and the intervals to 0
abbrev pub cleared_session : LossSession
cleared_session = record { kept = 0; intervals = 0; last = no_readings; near = pos 0; far = pos 0 }

-- how many intervals a session counts at most, and so how many readings it takes
abbrev pub most_intervals : ℕ
most_intervals = 1000000000

abbrev pub most_readings : ℕ
most_readings = most_intervals + 1

-- the paper's rules for a session, one by one; the test holds exactly where they do (`loss_session.well`)
pub record WellFormed (s : LossSession) : Type 0 where
  pub flag : s.kept ≤ 1
  pub few : s.intervals ≤ most_intervals
  pub nothing : s.kept ≡ 0 → (s.intervals ≡ 0) × (s.last ≡ no_readings)
  pub total : (d : LossEnd) → nat_abs (total_of d s) ≤ s.intervals * 4294967295

abbrev pub all_zero : Readings → Bool
all_zero r = eqb r.txf 0 && eqb r.rxf 0 && eqb r.txb 0 && eqb r.ours 0

-- the same as a test
unfoldable pub well_formed : LossSession → Bool
well_formed s =
    leb s.kept 1
    && leb s.intervals most_intervals
    && (eqb s.kept 1 || eqb s.intervals 0 && all_zero s.last)
    && leb (nat_abs s.near) (s.intervals * 4294967295)
    && leb (nat_abs s.far) (s.intervals * 4294967295)
