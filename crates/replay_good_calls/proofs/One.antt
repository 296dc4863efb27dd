-- Two results that a contract allows are equal. Stated over `Reads.Post`, which the check reads off the source's own clauses. Assumes
-- nothing.
use mathlib.Core.Path.{◌≡◌, sym, ◌∙◌}
use Rattle.replay_good_calls.proofs.is_call.Reads as is_call

pub is_call_one : (κs : _) (a : _) (r r' : _) (s s' : _) → is_call.Post κs a r s → is_call.Post κs a r' s' → r ≡ r'
is_call_one κs a r r' s s' p q = p ∙ sym q
