-- Two outcomes that a contract allows are equal: one answer, and one content of all memory handed over. Stated over `Reads.Post`, which the
-- check reads off the source's own clauses. Assumes nothing.
use Rattle.std.proofs.Common.{◌≡◌, sym, ◌∙◌}
use Rattle.state_view.specs.Arguments.{held_lent, left_frame_lent, writes_all}
use Rattle.state_places.proofs.Stores.{ends-once}
use Rattle.receive_change.proofs.apply.Reads as apply

pub apply_one : (κs : _) (a : _) (r r' : _) (s s' : _) → apply.Post κs a r s → apply.Post κs a r' s'
    → (r ≡ r') × (left_frame_lent a s ≡ left_frame_lent a s')
apply_one κs a r r' s s' p q =
    let o = ends-once (held_lent writes_all a) (left_frame_lent a s) (left_frame_lent a s') p.1 q.1 (p.0 ∙ sym q.0) in
    (o.0, o.1)
