-- Two results that a contract allows are equal. Stated over `Reads.Post`, which the check reads off the source's own clauses. Assumes
-- nothing.
use mathlib.Core.Path.{◌≡◌, sym, ◌∙◌}
use Rattle.state_standing.proofs.any_stands.Reads as any_stands
use Rattle.state_standing.proofs.flag_of.Reads as flag_of

pub any_stands_one : (κs : _) (a : _) (r r' : _) (s s' : _) → any_stands.Post κs a r s → any_stands.Post κs a r' s' → r ≡ r'
any_stands_one κs a r r' s s' p q = p ∙ sym q

pub flag_of_one : (κs : _) (a : _) (r r' : _) (s s' : _) → flag_of.Post κs a r s → flag_of.Post κs a r' s' → r ≡ r'
flag_of_one κs a r r' s s' p q = p ∙ sym q
