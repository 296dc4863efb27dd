-- Two outcomes that a contract allows are equal: one result. Stated over `Reads.Post`, which the check reads off the source's own clauses.
-- Assumes nothing.
use mathlib.Core.Path.{◌≡◌, sym, ◌∙◌}
use Rattle.replay_state_read.proofs.state_in.Reads as state_in

pub state_in_one : (κs : _) (a : _) (r r' : _) (s s' : _) → state_in.Post κs a r s → state_in.Post κs a r' s' → r ≡ r'
state_in_one κs a r r' s s' p q = p ∙ sym q
