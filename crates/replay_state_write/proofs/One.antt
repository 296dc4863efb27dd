-- Two outcomes that a contract allows are equal: one result. Stated over `Reads.Post`, which the check reads off the source's own clauses.
-- Assumes nothing.
use mathlib.Core.Path.{◌≡◌, sym, ◌∙◌}
use Rattle.replay_state_write.proofs.state_octets.Reads as state_octets

pub state_octets_one : (κs : _) (a : _) (r r' : _) (s s' : _) → state_octets.Post κs a r s → state_octets.Post κs a r' s' → r ≡ r'
state_octets_one κs a r r' s s' p q = p ∙ sym q
