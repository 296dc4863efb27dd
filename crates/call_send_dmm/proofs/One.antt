-- Two outcomes that a contract allows are equal: one answer, and one content of the buffer. Stated over `Reads.Post`, which the check reads
-- off the source's own clauses. Assumes nothing.
use mathlib.Core.Path.{◌≡◌, sym, ◌∙◌}
use Rattle.base_laws.proofs.Ended.{answer-is, buffer-is}
use Rattle.call_send_dmm.proofs.send_dmm.Reads as send_dmm

pub send_dmm_one : (κs : _) (a : _) (r r' : _) (s s' : _) → send_dmm.Post κs a r s → send_dmm.Post κs a r' s'
    → let (_, (_, (out, _))) = s in
    let (_, (_, (out', _))) = s' in (r ≡ r') × (out.now ≡ out'.now)
send_dmm_one κs a r r' s s' p q =
    let e = p.0.0 ∙ sym q.0.0 in
    (answer-is e, buffer-is e)
