-- Two outcomes that a contract allows are equal: one result, and one content of the buffer. Stated over `Reads.Post`, which the check
-- reads off the source's own clauses. Assumes nothing.
use mathlib.Core.Path.{◌≡◌, sym, ◌∙◌}
use Rattle.base_hex.proofs.write_hex.Reads as write_hex

pub write_hex_one : (κs : _) (a : _) (r r' : _) (s s' : _) → write_hex.Post κs a r s → write_hex.Post κs a r' s'
    → (r ≡ r') × (s.0.now ≡ s'.0.now)
write_hex_one κs a r r' s s' p q = (p.1 ∙ sym q.1, p.0 ∙ sym q.0)
