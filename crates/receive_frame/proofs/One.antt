-- Two outcomes that a contract allows are equal: one answer, and one content of all memory handed over. Stated over `Reads.Post`, which the
-- check reads off the source's own clauses. Assumes nothing.
use mathlib.Core.Path.{◌≡◌, sym, ◌∙◌}
use Rattle.state_view.specs.Arguments.{held_lent, left_frame_lent, writes_all}
use Rattle.state_places.proofs.Stores.{ends-once}
use Rattle.receive_frame.proofs.on_frame.Reads as on_frame

pub on_frame_one : (κs : _) (a : _) (r r' : _) (s s' : _) → on_frame.Post κs a r s → on_frame.Post κs a r' s'
    → let (_, (_, (_, (_, (_, (_, (_, (_, (_, (out, _)))))))))) = s in
    let (_, (_, (_, (_, (_, (_, (_, (_, (_, (out', _)))))))))) = s' in
    (r ≡ r') × (left_frame_lent a s ≡ left_frame_lent a s') × (out.now ≡ out'.now)
on_frame_one κs a r r' s s' p q =
    ends-once (held_lent writes_all a) (left_frame_lent a s) (left_frame_lent a s') p.1.1.0 q.1.1.0 (p.0 ∙ sym q.0)
