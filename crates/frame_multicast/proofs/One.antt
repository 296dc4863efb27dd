-- Two results that a contract allows are equal. Stated over `Reads.Post`, which the check reads off the source's own clauses. Assumes
-- nothing.
use mathlib.Core.Path.{◌≡◌, sym, ◌∙◌}
use Rattle.frame_multicast.proofs.is_multicast.Reads as is_multicast
use Rattle.frame_multicast.proofs.multicast_of.Reads as multicast_of

pub is_multicast_one : (κs : _) (a : _) (r r' : _) (s s' : _) → is_multicast.Post κs a r s → is_multicast.Post κs a r' s' → r ≡ r'
is_multicast_one κs a r r' s s' p q = p ∙ sym q

pub multicast_of_one : (κs : _) (a : _) (r r' : _) (s s' : _) → multicast_of.Post κs a r s → multicast_of.Post κs a r' s' → r ≡ r'
multicast_of_one κs a r r' s s' p q = p ∙ sym q
