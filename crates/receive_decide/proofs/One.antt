-- Two results that a contract allows are equal. Stated over `Reads.Post`, which the check reads off the source's own clauses. Assumes
-- nothing.
use mathlib.Core.Path.{◌≡◌, sym, ◌∙◌}
use Rattle.receive_decide.proofs.decide.Reads as decide

pub decide_one : (κs : _) (a : _) (r r' : _) (s s' : _) → decide.Post κs a r s → decide.Post κs a r' s' → r ≡ r'
decide_one κs a r r' s s' p q = p ∙ sym q
