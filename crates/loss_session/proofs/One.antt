-- Two results that a contract allows are equal. Stated over `Reads.Post`, which the check reads off the source's own clauses. Assumes
-- nothing.
use mathlib.Core.Path.{◌≡◌, sym, ◌∙◌}
use Rattle.loss_session.proofs.cleared.Reads as cleared
use Rattle.loss_session.proofs.well_formed.Reads as well_formed

pub cleared_one : (κs : _) (a : _) (r r' : _) (s s' : _) → cleared.Post κs a r s → cleared.Post κs a r' s' → r ≡ r'
cleared_one κs a r r' s s' p q = p ∙ sym q

pub well_formed_one : (κs : _) (a : _) (r r' : _) (s s' : _) → well_formed.Post κs a r s → well_formed.Post κs a r' s' → r ≡ r'
well_formed_one κs a r r' s s' p q = p ∙ sym q
