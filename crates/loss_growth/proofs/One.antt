-- Two results that a contract allows are equal. Stated over `Reads.Post`, which the check reads off the source's own clauses. Assumes
-- nothing.
use Rattle.std.proofs.Common.{◌≡◌, sym, ◌∙◌}
use Rattle.loss_growth.proofs.loss_between.Reads as loss_between

pub loss_between_one : (κs : _) (a : _) (r r' : _) (s s' : _) → loss_between.Post κs a r s → loss_between.Post κs a r' s' → r ≡ r'
loss_between_one κs a r r' s s' p q = p.0 ∙ sym q.0
