-- Two results that a contract allows are equal. Stated over `Reads.Post`, which the check reads off the source's own clauses. Assumes
-- nothing.
use mathlib.Core.Path.{◌≡◌, sym, ◌∙◌}
use Rattle.base_compare.proofs.same_octets.Reads as same_octets

pub same_octets_one : (κs : _) (a : _) (r r' : _) (s s' : _) → same_octets.Post κs a r s → same_octets.Post κs a r' s' → r ≡ r'
same_octets_one κs a r r' s s' p q = p ∙ sym q
