-- The session after some replies whose counts are steady: its line is the account's, and it takes another reply. Assumes nothing.
use Prim.Native.Nat.{◌≤◌, ◌<◌}
use mathlib.Core.Path.{◌≡◌, sym, ap, ◌∙◌}
use mathlib.Core.List.{List, [], ◌∷◌, ◌++◌, map, map-append}
use mathlib.Core.Bool.{true, false}
use mathlib.Core.Logic.{◌⊎◌, inl, inr}
use native.Mathlib.Omega.{arith}
use lib.Dec.{eqb}
use lib.ListN.{length}
use borrow.Author.Tests.{ne_eqb}
use Rattle.base_laws.specs.Tests.{choose}
use Rattle.base_laws.proofs.Tests.{known}
use Rattle.base_clock.specs.Run.{after}
use Rattle.base_clock.proofs.Runs.{after-append}
use Rattle.loss_session.specs.declared.Readings.{Readings}
use Rattle.loss_session.specs.declared.LossSession.{LossSession}
use Rattle.loss_session.specs.Session.{near, far, cleared_session, WellFormed, well_formed, most_intervals, most_readings}
use Rattle.loss_reading.specs.Reading.{after_reading}
use Rattle.loss_reading.specs.Told.{loss_numbers}
use Rattle.loss_reading.proofs.Refusals.{sessions}
use Rattle.stored_line.specs.Line.{KeepsRules}
use Rattle.loss_account.specs.Account.{Truth, GoesOn, Sound}
use Rattle.loss_account.specs.Demand3.{leaves, Counts, truth_of, shown, Steady}
use Rattle.loss_account.proofs.Both.{ours}
use Rattle.stored_replies.specs.Replies.{line_of}
use Rattle.stored_month.specs.Month.{account_line}

-- ── a first part of steady counts is steady ──

goes_front : (t : Truth) (us vs : List Truth) → GoesOn t (us ++ vs) → GoesOn t us
goes_front t [] vs g = tt
goes_front t (u ∷ us) vs g = (g.0, g.1, goes_front u us vs g.2)

sound-front : (us vs : List Truth) → Sound (us ++ vs) → Sound us
sound-front [] vs s = tt
sound-front (u ∷ us) vs s = goes_front u us vs s

pub steady_front : (us vs : List Counts) → Steady (us ++ vs) → Steady us
steady_front us vs s d = sound-front (map (truth_of d) us) (map (truth_of d) vs) (rw (map-append (truth_of d) us vs) at (s d))

-- ── the session after some replies ──

abbrev pub reached : List Counts → LossSession
reached ts = leaves after_reading cleared_session (map shown ts)

well-run : (rs : List Readings) (s : LossSession) → WellFormed s → WellFormed (leaves after_reading s rs)
unfolding after
well-run [] s w = w
well-run (r ∷ rs) s w = well-run rs (after_reading s r).session (sessions.stays s r w)

pub well : (rs : List Readings) → WellFormed (leaves after_reading cleared_session rs)
well rs = well-run rs cleared_session sessions.cleared_well

-- one reply more
pub one_more : (ts : List Counts) (t : Counts) → (after_reading (reached ts) (shown t)).session ≡ reached (ts ++ (t ∷ []))
unfolding after
one_more ts t =
    sym (after-append (λ (s : LossSession) (r : Readings). (after_reading s r).session) cleared_session (map shown ts) (shown t ∷ []))
    ∙ ap (leaves after_reading cleared_session) (sym (map-append shown ts (t ∷ [])))

-- its line is the account's
pub line-is : (ts : List Counts) → length ts ≤ most_readings → Steady ts → line_of (reached ts) ≡ account_line ts
line-is ts few steady =
    let b = ours ts few steady in
    rw (b.totals near, b.totals far, b.intervals)

pub line_kept : (rs : List Readings) → KeepsRules (line_of (leaves after_reading cleared_session rs))
line_kept rs = let w = well rs in record { few = w.few; near = w.total near; far = w.total far }

-- it takes another reply while there are fewer than 1,000,000,001
pub takes-more : (s : LossSession) (r : Readings) → WellFormed s → s.intervals < most_intervals → (loss_numbers s r).refusal ≡ 0
unfolding loss_numbers choose
takes-more s r w few = by (known (eqb s.kept 0))
  where
    good : well_formed s ≡ true
    good = (sessions.well s).1 w

    room : eqb s.intervals most_intervals ≡ false
    room = ne_eqb s.intervals most_intervals (λ e. omega (arith, few, e))

    by : (eqb s.kept 0 ≡ true) ⊎ (eqb s.kept 0 ≡ false) → (loss_numbers s r).refusal ≡ 0
    by (inl t) = rw (good, t)
    by (inr f) = rw (good, f, room)
