-- Two results that a contract allows are equal. Stated over `Reads.Post`, which the check reads off the source's own clauses. Assumes
-- nothing.
use mathlib.Core.Path.{◌≡◌, sym, ◌∙◌}
use Rattle.state_well_formed.proofs.is_well_formed.Reads as is_well_formed

pub is_well_formed_one : (κs : _) (a : _) (r r' : _) (s s' : _) → is_well_formed.Post κs a r s → is_well_formed.Post κs a r' s' → r ≡ r'
is_well_formed_one κs a r r' s s' p q = p ∙ sym q
