-- The lent session leaves what the paper says of it. Assumes nothing.
use mathlib.Core.Path.{◌≡◌, refl, ◌∙◌}
use native.Mathlib.Omega.{arith}
use borrow.Author.Tests.{ne_eqb}
use Rattle.base_laws.specs.Tests.{choose}
use Rattle.base_laws.proofs.Tests.{fails}
use Rattle.loss_session.specs.declared.Readings.{Readings}
use Rattle.loss_session.specs.declared.LossSession.{LossSession}
use Rattle.loss_session.specs.Session.{most_intervals}
use Rattle.loss_reading.specs.declared.LossTold.{LossTold}
use Rattle.loss_reading.specs.Reading.{after_reading}
use Rattle.loss_reading.specs.Told.{loss_numbers}
use Rattle.loss_reading.proofs.Laws.{Case, bad, begins, stops, measures, cases}
use Rattle.loss_reading.proofs.Refusals.{sessions}
use Rattle.loss_lent.specs.Lent.{reading_of, Lent}
use Rattle.loss_lent.specs.Said.{LentSaid, lent_2, lent_first, lent_later, lent_5, FollowsLent, LentFollows}

module _ (s : LossSession) (r : Readings) where
  -- ours is what each line says
  told_is : {t : LossTold} {e : LossSession} → LentSaid s r t e → ((reading_of s r).told ≡ t) × ((reading_of s r).session ≡ e)
  unfolding loss_numbers after_reading choose
  told_is (lent_2 n) = rw (fails (sessions.well s) n) (refl, refl)
  told_is (lent_first w k) = rw ((sessions.well s).1 w, k) (refl, refl)
  told_is (lent_later w k n) =
      rw (
        (sessions.well s).1 w,
        ne_eqb s.kept 0 (λ e. omega (arith, e, k)),
        ne_eqb s.intervals most_intervals (λ e. omega (arith, e, n)),
      ) (refl, refl)
  told_is (lent_5 w k n) = rw ((sessions.well s).1 w, ne_eqb s.kept 0 (λ e. omega (arith, e, k)), n) (refl, refl)

-- the paper has a line for each case of a session
line : {s : LossSession} {r : Readings} → Case s r → (t : LossTold) × (e : LossSession) × LentSaid s r t e
line (bad n e) = (_, _, lent_2 n)
line (begins w k e) = (_, _, lent_first w k)
line (stops w k n e) = (_, _, lent_5 w k n)
line (measures w k n e) = (_, _, lent_later w k n)

follows : FollowsLent Lent
follows s r t u e f p q = let o = told_is s r q in (p.0 ∙ o.0, p.1 ∙ o.1)

pub lent-follows : LentFollows
lent-follows = record { ours = follows; says = λ s r. line (cases s r) }
