-- Two outcomes that a contract allows are equal: one result, and one content of the buffer. Stated over `Reads.Post`, which the check
-- reads off the source's own clauses. Assumes nothing.
use mathlib.Core.Path.{◌≡◌, sym, ◌∙◌}
use Rattle.base_numbers.proofs.read_big.Reads as read_big
use Rattle.base_numbers.proofs.read_little.Reads as read_little
use Rattle.base_numbers.proofs.write_big.Reads as write_big
use Rattle.base_numbers.proofs.write_little.Reads as write_little

pub read_big_one : (κs : _) (a : _) (r r' : _) (s s' : _) → read_big.Post κs a r s → read_big.Post κs a r' s' → r ≡ r'
read_big_one κs a r r' s s' p q = p.is ∙ sym q.is

pub read_little_one : (κs : _) (a : _) (r r' : _) (s s' : _) → read_little.Post κs a r s → read_little.Post κs a r' s' → r ≡ r'
read_little_one κs a r r' s s' p q = p.is ∙ sym q.is

pub write_big_one : (κs : _) (a : _) (r r' : _) (s s' : _) → write_big.Post κs a r s → write_big.Post κs a r' s' → s.0.now ≡ s'.0.now
write_big_one κs a r r' s s' p q = p ∙ sym q

pub write_little_one : (κs : _) (a : _) (r r' : _) (s s' : _) → write_little.Post κs a r s → write_little.Post κs a r' s'
    → s.0.now ≡ s'.0.now
write_little_one κs a r r' s s' p q = p ∙ sym q
