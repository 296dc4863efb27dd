-- Two results that a contract allows are equal. Stated over `Reads.Post`, which the check reads off the source's own clauses. Assumes
-- nothing.
use mathlib.Core.Path.{◌≡◌, sym, ◌∙◌}
use Rattle.stored_settings_body_write.proofs.body_of.Reads as body_of

pub body_of_one : (κs : _) (a : _) (r r' : _) (s s' : _) → body_of.Post κs a r s → body_of.Post κs a r' s' → r ≡ r'
body_of_one κs a r r' s s' p q = p ∙ sym q
