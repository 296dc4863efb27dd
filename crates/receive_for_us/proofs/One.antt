-- Two results that a contract allows are equal. Stated over `Reads.Post`, which the check reads off the source's own clauses. Assumes
-- nothing.
use mathlib.Core.Path.{◌≡◌, sym, ◌∙◌}
use Rattle.receive_for_us.proofs.good_destination.Reads as good_destination
use Rattle.receive_for_us.proofs.is_for_us.Reads as is_for_us

pub good_destination_one : (κs : _) (a : _) (r r' : _) (s s' : _) → good_destination.Post κs a r s → good_destination.Post κs a r' s'
    → r ≡ r'
good_destination_one κs a r r' s s' p q = p ∙ sym q

pub is_for_us_one : (κs : _) (a : _) (r r' : _) (s s' : _) → is_for_us.Post κs a r s → is_for_us.Post κs a r' s' → r ≡ r'
is_for_us_one κs a r r' s s' p q = p ∙ sym q
