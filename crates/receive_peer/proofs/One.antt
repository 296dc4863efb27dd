-- Two outcomes that a contract allows are equal: one answer, and one content of all memory handed over. Stated over `Reads.Post`, which the
-- check
-- reads off the source's own clauses. Assumes nothing.
use mathlib.Core.Path.{◌≡◌, sym, ◌∙◌}
use Rattle.receive_peer.proofs.ccm_signal.Reads as ccm_signal

pub ccm_signal_one : (κs : _) (a : _) (r r' : _) (s s' : _) → ccm_signal.Post κs a r s → ccm_signal.Post κs a r' s' → r ≡ r'
ccm_signal_one κs a r r' s s' p q = p ∙ sym q
