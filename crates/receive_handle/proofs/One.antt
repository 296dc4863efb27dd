-- Two results that a contract allows are equal. Stated over `Reads.Post`, which the check reads off the source's own clauses. Assumes
-- nothing.
use mathlib.Core.Path.{◌≡◌, sym, ◌∙◌}
use Rattle.receive_handle.proofs.handle_message.Reads as handle_message

pub handle_message_one : (κs : _) (a : _) (r r' : _) (s s' : _) → handle_message.Post κs a r s → handle_message.Post κs a r' s' → r ≡ r'
handle_message_one κs a r r' s s' p q = p ∙ sym q
