-- Two results that a contract allows are equal. Stated over `Reads.Post`, which the check reads off the source's own clauses. Assumes
-- nothing.
use mathlib.Core.Path.{◌≡◌, sym, ◌∙◌}
use Rattle.receive_class.proofs.class_of.Reads as class_of

pub class_of_one : (κs : _) (a : _) (r r' : _) (s s' : _) → class_of.Post κs a r s → class_of.Post κs a r' s' → r ≡ r'
class_of_one κs a r r' s s' p q = p ∙ sym q
