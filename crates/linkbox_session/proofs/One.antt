-- Two outcomes that the contract allows are equal: one answer in numbers, and one session. Stated over the clause `Lent`, and over
-- `Reads.Post`, which the check reads off the source's own clause. Assumes nothing.
use mathlib.Core.Path.{◌≡◌, sym, ◌∙◌}
use Rattle.loss_session.specs.declared.Readings.{Readings}
use Rattle.loss_session.specs.declared.LossSession.{LossSession}
use Rattle.loss_reading.specs.declared.LossTold.{LossTold}
use Rattle.loss_lent.specs.Lent.{Lent}
use Rattle.loss_lent.proofs.Lends.{lends}
use Rattle.linkbox_session.proofs.linkbox_measure.Reads as measure

pub linkbox_measure_one : (s : LossSession) (r : Readings) (t t' : LossTold) (e e' : LossSession) → Lent s r t e → Lent s r t' e'
    → (t ≡ t') × (e ≡ e')
linkbox_measure_one = lends.one

pub linkbox_measure_leaves_one : (κs : _) (a : _) (r r' : _) (s s' : _) → measure.Post κs a r s → measure.Post κs a r' s'
    → (r ≡ r') × (s.0.now ≡ s'.0.now)
linkbox_measure_leaves_one κs a r r' s s' p q = (p.0 ∙ sym q.0, p.1 ∙ sym q.1)
