-- Two results that a contract allows are equal; lent arrays show one state. Stated over `Reads.Post`, which the check reads off the
-- source's own clauses. Assumes nothing.
use mathlib.Core.Path.{◌≡◌, sym, ◌∙◌}
use Rattle.state_view.specs.State.{state_lent}
use Rattle.state_view.proofs.StateArrays.lent.Reads as lent
use Rattle.state_view.proofs.lend.Reads as lend
use Rattle.state_view.proofs.session_of.Reads as session_of

pub session_of_one : (κs : _) (a : _) (r r' : _) (s s' : _) → session_of.Post κs a r s → session_of.Post κs a r' s' → r ≡ r'
session_of_one κs a r r' s s' p q = p ∙ sym q

pub lent_one : (κs : _) (a : _) (r r' : _) (s s' : _) → lent.Post κs a r s → lent.Post κs a r' s' → state_lent r ≡ state_lent r'
lent_one κs a r r' s s' p q = p ∙ sym q

pub lend_one : (κs : _) (a : _) (r r' : _) (s s' : _) → lend.Post κs a r s → lend.Post κs a r' s' → state_lent r ≡ state_lent r'
lend_one κs a r r' s s' p q = p ∙ sym q
