-- Two outcomes that a contract allows are equal: one answer, and one content of each array. Stated over `Reads.Post`, which the check reads
-- off the source's own clauses. Assumes nothing.
use mathlib.Core.Path.{◌≡◌, sym, ◌∙◌}
use Rattle.state_view.specs.Arguments.{held_lent, left_session_lent, writes_session}
use Rattle.state_places.proofs.Stores.{ends-once}
use Rattle.call_clear.proofs.clear.Reads as clear
use Rattle.call_clear.proofs.tell.Reads as tell

pub clear_one : (κs : _) (a : _) (r r' : _) (s s' : _) → clear.Post κs a r s → clear.Post κs a r' s'
    → (r ≡ r') × (left_session_lent a s ≡ left_session_lent a s')
clear_one κs a r r' s s' p q =
    let o = ends-once (held_lent writes_session a) (left_session_lent a s) (left_session_lent a s') p.1 q.1 (p.0.0 ∙ sym q.0.0) in
    (o.0, o.1)

pub tell_one : (κs : _) (a : _) (r r' : _) (s s' : _) → tell.Post κs a r s → tell.Post κs a r' s' → r ≡ r'
tell_one κs a r r' s s' p q = p ∙ sym q
