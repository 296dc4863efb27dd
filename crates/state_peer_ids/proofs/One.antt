-- Two results that a contract allows are equal. Stated over `Reads.Post`, which the check reads off the source's own clauses. Assumes
-- nothing.
use mathlib.Core.Path.{◌≡◌, sym, ◌∙◌}
use Rattle.state_peer_ids.proofs.peers_good.Reads as peers_good

pub peers_good_one : (κs : _) (a : _) (r r' : _) (s s' : _) → peers_good.Post κs a r s → peers_good.Post κs a r' s' → r ≡ r'
peers_good_one κs a r r' s s' p q = p ∙ sym q
