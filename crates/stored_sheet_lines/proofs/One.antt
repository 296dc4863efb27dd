-- Two outcomes that a contract allows are equal: one result, and one content of the buffer. Stated over `Reads.Post`, which the check
-- reads off the source's own clauses. Assumes nothing.
use mathlib.Core.Path.{◌≡◌, sym, ◌∙◌}
use Rattle.base_laws.proofs.Ended.{answer-is, buffer-is}
use Rattle.stored_sheet_lines.proofs.write_lines.Reads as write_lines

pub write_lines_one : (κs : _) (a : _) (r r' : _) (s s' : _) → write_lines.Post κs a r s → write_lines.Post κs a r' s' → (r ≡ r')
    × (s.0.now ≡ s'.0.now)
write_lines_one κs a r r' s s' p q = (answer-is (p ∙ sym q), buffer-is (p ∙ sym q))
