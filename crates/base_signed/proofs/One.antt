-- Two outcomes that a contract allows are equal: one result, and one content of the buffer. Stated over `Reads.Post`, which the check
-- reads off the source's own clauses. Assumes nothing.
use mathlib.Core.Path.{◌≡◌, sym, ◌∙◌}
use Rattle.base_signed.proofs.read_little_signed.Reads as read_little_signed
use Rattle.base_signed.proofs.write_little_signed.Reads as write_little_signed

pub read_little_signed_one : (κs : _) (a : _) (r r' : _) (s s' : _) → read_little_signed.Post κs a r s → read_little_signed.Post κs a r' s'
    → r ≡ r'
read_little_signed_one κs a r r' s s' p q = p ∙ sym q

pub write_little_signed_one : (κs : _) (a : _) (r r' : _) (s s' : _) → write_little_signed.Post κs a r s
    → write_little_signed.Post κs a r' s' → s.0.now ≡ s'.0.now
write_little_signed_one κs a r r' s s' p q = p ∙ sym q
