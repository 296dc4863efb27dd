-- Two outcomes that a contract allows are equal: one result, and one content of the buffer. Stated over `Reads.Post`, which the check
-- reads off the source's own clauses. Assumes nothing.
use mathlib.Core.Path.{◌≡◌, sym, ◌∙◌}
use Rattle.base_number_write.proofs.put_before.Reads as put_before
use Rattle.base_number_write.proofs.write_decimal.Reads as write_decimal

pub put_before_one : (κs : _) (a : _) (r r' : _) (s s' : _) → put_before.Post κs a r s → put_before.Post κs a r' s'
    → (r ≡ r') × (s.0.now ≡ s'.0.now)
put_before_one κs a r r' s s' p q = (p.1 ∙ sym q.1, p.0 ∙ sym q.0)

pub write_decimal_one : (κs : _) (a : _) (r r' : _) (s s' : _) → write_decimal.Post κs a r s → write_decimal.Post κs a r' s'
    → (r ≡ r') × (s.0.now ≡ s'.0.now)
write_decimal_one κs a r r' s s' p q = (p.1 ∙ sym q.1, p.0 ∙ sym q.0)
