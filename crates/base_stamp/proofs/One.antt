-- Two results that a contract allows are equal. Stated over `Reads.Post`, which the check reads off the source's own clauses. Assumes
-- nothing.
use mathlib.Core.Path.{◌≡◌, sym, ◌∙◌}
use Rattle.base_stamp.proofs.good_stamp.Reads as good_stamp
use Rattle.base_stamp.proofs.given_stamp.Reads as given_stamp

pub good_stamp_one : (κs : _) (a : _) (r r' : _) (s s' : _) → good_stamp.Post κs a r s → good_stamp.Post κs a r' s' → r ≡ r'
good_stamp_one κs a r r' s s' p q = p ∙ sym q

pub given_stamp_one : (κs : _) (a : _) (r r' : _) (s s' : _) → given_stamp.Post κs a r s → given_stamp.Post κs a r' s' → r ≡ r'
given_stamp_one κs a r r' s s' p q = p ∙ sym q
