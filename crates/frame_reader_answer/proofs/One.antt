-- Two results that a contract allows are equal. Stated over `Reads.Post`, which the check reads off the source's own clauses. Assumes
-- nothing.
use mathlib.Core.Path.{◌≡◌, sym, ◌∙◌}
use Rattle.frame_reader_answer.proofs.tell.Reads as tell

pub tell_one : (κs : _) (a : _) (r r' : _) (s s' : _) → tell.Post κs a r s → tell.Post κs a r' s' → r ≡ r'
tell_one κs a r r' s s' p q = p ∙ sym q
