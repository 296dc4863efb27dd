-- Two outcomes that a contract allows are equal: one result. Stated over `Reads.Post`, which the check reads off the source's own clauses.
-- Assumes nothing.
use mathlib.Core.Path.{◌≡◌, sym, ◌∙◌}
use Rattle.replay_session.proofs.session_in.Reads as session_in
use Rattle.replay_session.proofs.session_octets.Reads as session_octets

pub session_in_one : (κs : _) (a : _) (r r' : _) (s s' : _) → session_in.Post κs a r s → session_in.Post κs a r' s' → r ≡ r'
session_in_one κs a r r' s s' p q = p ∙ sym q

pub session_octets_one : (κs : _) (a : _) (r r' : _) (s s' : _) → session_octets.Post κs a r s → session_octets.Post κs a r' s' → r ≡ r'
session_octets_one κs a r r' s s' p q = p ∙ sym q
