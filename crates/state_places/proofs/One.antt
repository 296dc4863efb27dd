-- Two outcomes that a contract allows are equal: one answer, and one content of all memory handed over. Stated over `Reads.Post`, which the
-- check reads off the source's own clauses. Assumes nothing.
use mathlib.Core.Path.{◌≡◌, sym, ◌∙◌}
use Rattle.state_view.specs.Arguments.{held_lent, left_session_lent, writes_session}
use Rattle.state_places.proofs.Stores.{lies-once}
use Rattle.state_places.proofs.put_session.Reads as put_session

pub put_session_one : (κs : _) (a : _) (r r' : _) (s s' : _) → put_session.Post κs a r s → put_session.Post κs a r' s'
    → left_session_lent a s ≡ left_session_lent a s'
put_session_one κs a r r' s s' p q = lies-once (held_lent writes_session a) (left_session_lent a s) (left_session_lent a s') p.1 q.1 (p.0 ∙ sym q.0)
