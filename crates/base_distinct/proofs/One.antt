-- Two results that a contract allows are equal. Stated over `Reads.Post`, which the check reads off the source's own clauses. Assumes
-- nothing.
use mathlib.Core.Path.{◌≡◌, sym, ◌∙◌}
use Rattle.base_distinct.proofs.is_absent.Reads as is_absent

pub is_absent_one : (κs : _) (a : _) (r r' : _) (s s' : _) → is_absent.Post κs a r s → is_absent.Post κs a r' s' → r ≡ r'
is_absent_one κs a r r' s s' p q = p ∙ sym q
