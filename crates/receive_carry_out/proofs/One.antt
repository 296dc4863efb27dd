-- Two outcomes that a contract allows are equal: one answer, and one content of all memory handed over. Stated over `Reads.Post`, which the
-- check reads off the source's own clauses. Assumes nothing.
use mathlib.Core.Path.{◌≡◌, sym, ◌∙◌}
use Rattle.state_view.specs.Arguments.{held_lent, left_frame_lent, writes_all}
use Rattle.state_places.proofs.Stores.{ends-once}
use Rattle.receive_carry_out.proofs.carry_out.Reads as carry_out

pub carry_out_one : (κs : _) (a : _) (r r' : _) (s s' : _) → carry_out.Post κs a r s → carry_out.Post κs a r' s'
    → let (_, (_, (_, (_, (_, (_, (_, (_, (_, (out, _)))))))))) = s in
    let (_, (_, (_, (_, (_, (_, (_, (_, (_, (out', _)))))))))) = s' in
    (r ≡ r') × (left_frame_lent a s ≡ left_frame_lent a s') × (out.now ≡ out'.now)
carry_out_one κs a r r' s s' p q = ends-once (held_lent writes_all a) (left_frame_lent a s) (left_frame_lent a s') p.1 q.1 (p.0 ∙ sym q.0)
