-- Two results that a contract allows are equal. Stated over `Reads.Post`, which the check reads off the source's own clauses. Assumes
-- nothing.
use mathlib.Core.Path.{◌≡◌, sym, ◌∙◌}
use Rattle.call_send_answer.proofs.tell_tick.Reads as tell_tick
use Rattle.call_send_answer.proofs.tell_lmm.Reads as tell_lmm
use Rattle.call_send_answer.proofs.tell_dmm.Reads as tell_dmm

pub tell_tick_one : (κs : _) (a : _) (r r' : _) (s s' : _) → tell_tick.Post κs a r s → tell_tick.Post κs a r' s' → r ≡ r'
tell_tick_one κs a r r' s s' p q = p ∙ sym q

pub tell_lmm_one : (κs : _) (a : _) (r r' : _) (s s' : _) → tell_lmm.Post κs a r s → tell_lmm.Post κs a r' s' → r ≡ r'
tell_lmm_one κs a r r' s s' p q = p ∙ sym q

pub tell_dmm_one : (κs : _) (a : _) (r r' : _) (s s' : _) → tell_dmm.Post κs a r s → tell_dmm.Post κs a r' s' → r ≡ r'
tell_dmm_one κs a r r' s s' p q = p ∙ sym q
