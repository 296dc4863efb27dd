-- Two results that a contract allows are equal. Stated over `Reads.Post`, which the check reads off the source's own clauses. Assumes
-- nothing.
use mathlib.Core.Path.{◌≡◌, sym, ◌∙◌}
use Rattle.stored_settings_body.proofs.settings_of.Reads as settings_of

pub settings_of_one : (κs : _) (a : _) (r r' : _) (s s' : _) → settings_of.Post κs a r s → settings_of.Post κs a r' s' → r ≡ r'
settings_of_one κs a r r' s s' p q = p ∙ sym q
