-- Two results that a contract allows are equal. Stated over `Reads.Post`, which the check reads off the source's own clauses. Assumes
-- nothing.
use mathlib.Core.Path.{◌≡◌, sym, ◌∙◌}
use Rattle.loss_step.proofs.take_reading.Reads as take_reading

pub take_reading_one : (κs : _) (a : _) (r r' : _) (s s' : _) → take_reading.Post κs a r s → take_reading.Post κs a r' s' → r ≡ r'
take_reading_one κs a r r' s s' p q = p.0 ∙ sym q.0
