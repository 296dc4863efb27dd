-- Two results that a contract allows are equal. Stated over `Reads.Post`, which the check reads off the source's own clauses. Assumes
-- nothing.
use mathlib.Core.Path.{◌≡◌, sym, ◌∙◌}
use Rattle.receive_delay.proofs.measure_delay.Reads as measure_delay

pub measure_delay_one : (κs : _) (a : _) (r r' : _) (s s' : _) → measure_delay.Post κs a r s → measure_delay.Post κs a r' s' → r ≡ r'
measure_delay_one κs a r r' s s' p q = p.0 ∙ sym q.0
