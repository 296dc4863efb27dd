-- Two outcomes that a contract allows are equal: one answer, and one content of the buffer. Stated over `Reads.Post`, which the check reads
-- off the source's own clauses. Assumes nothing.
use mathlib.Core.Path.{◌≡◌, sym, ◌∙◌}
use Rattle.base_laws.proofs.Ended.{answer-is, buffer-is}
use Rattle.call_send_lmm.proofs.send_lmm.Reads as send_lmm

pub send_lmm_one : (κs : _) (a : _) (r r' : _) (s s' : _) → send_lmm.Post κs a r s → send_lmm.Post κs a r' s'
    → (r ≡ r') × (s.1.0.now ≡ s'.1.0.now)
send_lmm_one κs a r r' s s' p q =
    let e = p.0 ∙ sym q.0 in
    (answer-is e, buffer-is e)
