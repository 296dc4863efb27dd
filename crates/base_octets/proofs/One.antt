-- Two outcomes that a contract allows are equal: one content of the buffer. Stated over `Reads.Post`, which the check
-- reads off the source's own clauses. Assumes nothing.
use mathlib.Core.Path.{◌≡◌, sym, ◌∙◌}
use Rattle.base_octets.proofs.copy_octets.Reads as copy_octets

pub copy_octets_one : (κs : _) (a : _) (r r' : _) (s s' : _) → copy_octets.Post κs a r s → copy_octets.Post κs a r' s'
    → s.0.now ≡ s'.0.now
copy_octets_one κs a r r' s s' p q = p ∙ sym q
