-- `loss_lent::answer` meets its contract: the session's rule, and its answer told in numbers.
use mathlib.Core.Path.{ap, ap₂, ◌∙◌}
use Rattle.loss_session.specs.declared.LossSession.{LossSession}
use Rattle.loss_reading.specs.declared.LossTold.{LossTold}
use Rattle.loss_reading.specs.declared.Updated.{Updated}
use Rattle.loss_lent.proofs.answer.Goals as goal

pub returns : goal.returns
returns c = let u = c.take_reading-u in
    ap₂ (λ (t : LossTold) (s : LossSession). record { told = t; session = s })
    (c.tell-told.ensures ∙ u.ensures.1)
    (ap (λ (v : Updated). v.session) u.ensures.0)
