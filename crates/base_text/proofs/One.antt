-- Two outcomes that a contract allows are equal: one result, and one content of the buffer. Stated over `Reads.Post`, which the check
-- reads off the source's own clauses. Assumes nothing.
use mathlib.Core.Path.{◌≡◌, sym, ◌∙◌}
use Rattle.base_text.proofs.write_word.Reads as write_word

pub write_word_one : (κs : _) (a : _) (r r' : _) (s s' : _) → write_word.Post κs a r s → write_word.Post κs a r' s'
    → (r ≡ r') × (s.0.now ≡ s'.0.now)
write_word_one κs a r r' s s' p q = (p.1 ∙ sym q.1, p.0 ∙ sym q.0)
