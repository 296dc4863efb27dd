-- Two outcomes that a contract allows are equal: one result, and one content of the buffer. Stated over `Reads.Post`, which the check
-- reads off the source's own clauses. Assumes nothing.
use mathlib.Core.Path.{◌≡◌, sym, ◌∙◌}
use Rattle.message_dmm.proofs.write_dmm.Reads as write_dmm

pub write_dmm_one : (κs : _) (a : _) (r r' : _) (s s' : _) → write_dmm.Post κs a r s → write_dmm.Post κs a r' s' → (r ≡ r')
    × (s.0.now ≡ s'.0.now)
write_dmm_one κs a r r' s s' p q = (p.0.0 ∙ sym q.0.0, p.1.0 ∙ sym q.1.0)
