-- Two outcomes that a contract allows are equal: one answer, and one content of the buffer. Stated over `Reads.Post`, which the check reads
-- off the source's own clauses. Assumes nothing.
use mathlib.Core.Path.{◌≡◌, sym, ◌∙◌}
use Rattle.call_tick_ccm.proofs.write_own_ccm.Reads as write_own_ccm

pub write_own_ccm_one : (κs : _) (a : _) (r r' : _) (s s' : _) → write_own_ccm.Post κs a r s → write_own_ccm.Post κs a r' s'
    → (r ≡ r') × (s.1.0.now ≡ s'.1.0.now)
write_own_ccm_one κs a r r' s s' p q = (p.0.0 ∙ sym q.0.0, p.1.0 ∙ sym q.1.0)
