-- Two results that a contract allows are equal. Stated over `Reads.Post`, which the check reads off the source's own clauses. Assumes
-- nothing.
use mathlib.Core.Path.{◌≡◌, sym, ◌∙◌}
use Rattle.base_period.proofs.Period.from_code.Reads as from_code
use Rattle.base_period.proofs.ticks_of.Reads as ticks_of
use Rattle.base_period.proofs.hold_of.Reads as hold_of

pub from_code_one : (κs : _) (a : _) (r r' : _) (s s' : _) → from_code.Post κs a r s → from_code.Post κs a r' s' → r ≡ r'
from_code_one κs a r r' s s' p q = p ∙ sym q

pub ticks_of_one : (κs : _) (a : _) (r r' : _) (s s' : _) → ticks_of.Post κs a r s → ticks_of.Post κs a r' s' → r ≡ r'
ticks_of_one κs a r r' s s' p q = p ∙ sym q

pub hold_of_one : (κs : _) (a : _) (r r' : _) (s s' : _) → hold_of.Post κs a r s → hold_of.Post κs a r' s' → r ≡ r'
hold_of_one κs a r r' s s' p q = p ∙ sym q
