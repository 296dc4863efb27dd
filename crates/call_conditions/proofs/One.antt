-- Two results that a contract allows are equal. Stated over `Reads.Post`, which the check reads off the source's own clauses. Assumes
-- nothing.
use mathlib.Core.Path.{◌≡◌, sym, ◌∙◌}
use Rattle.call_conditions.proofs.conditions.Reads as conditions

pub conditions_one : (κs : _) (a : _) (r r' : _) (s s' : _) → conditions.Post κs a r s → conditions.Post κs a r' s' → r ≡ r'
conditions_one κs a r r' s s' p q = p ∙ sym q
