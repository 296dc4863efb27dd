-- Two outcomes that a contract allows are equal: one result, and one content of the buffer. Stated over `Reads.Post`, which the check
-- reads off the source's own clauses. Assumes nothing.
use mathlib.Core.Path.{◌≡◌, sym, ◌∙◌}
use Rattle.base_laws.proofs.Ended.{answer-is, buffer-is}
use Rattle.stored_line_calls.proofs.read_line.Reads as read_line
use Rattle.stored_line_calls.proofs.write_line.Reads as write_line

pub read_line_one : (κs : _) (a : _) (r r' : _) (s s' : _) → read_line.Post κs a r s → read_line.Post κs a r' s' → r ≡ r'
read_line_one κs a r r' s s' p q = p.0 ∙ sym q.0

pub write_line_one : (κs : _) (a : _) (r r' : _) (s s' : _) → write_line.Post κs a r s → write_line.Post κs a r' s' → (r ≡ r')
    × (s.0.now ≡ s'.0.now)
write_line_one κs a r r' s s' p q = (answer-is (p.0 ∙ sym q.0), buffer-is (p.0 ∙ sym q.0))
