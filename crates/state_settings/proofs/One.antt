-- Two results that a contract allows are equal. Stated over `Reads.Post`, which the check reads off the source's own clauses. Assumes
-- nothing.
use mathlib.Core.Path.{◌≡◌, sym, ◌∙◌}
use Rattle.state_settings.proofs.is_valid.Reads as is_valid

pub is_valid_one : (κs : _) (a : _) (r r' : _) (s s' : _) → is_valid.Post κs a r s → is_valid.Post κs a r' s' → r ≡ r'
is_valid_one κs a r r' s s' p q = p ∙ sym q
