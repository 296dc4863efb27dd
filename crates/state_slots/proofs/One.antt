-- Two results that a contract allows are equal. Stated over `Reads.Post`, which the check reads off the source's own clauses. Assumes
-- nothing.
use mathlib.Core.Path.{◌≡◌, sym, ◌∙◌}
use Rattle.state_slots.proofs.slots_good.Reads as slots_good

pub slots_good_one : (κs : _) (a : _) (r r' : _) (s s' : _) → slots_good.Post κs a r s → slots_good.Post κs a r' s' → r ≡ r'
slots_good_one κs a r r' s s' p q = p ∙ sym q
