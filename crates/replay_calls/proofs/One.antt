-- Two outcomes that a contract allows are equal: one result. Stated over `Reads.Post`, which the check reads off the source's own clauses.
-- Assumes nothing.
use mathlib.Core.Path.{◌≡◌, sym, ◌∙◌}
use Rattle.replay_calls.proofs.call_length.Reads as Call-length
use Rattle.replay_calls.proofs.row_of.Reads as row_of
use Rattle.replay_calls.proofs.hands_over.Reads as hands_over
use Rattle.replay_calls.proofs.room_of.Reads as room_of

pub call_length_one : (κs : _) (a : _) (r r' : _) (s s' : _) → Call-length.Post κs a r s → Call-length.Post κs a r' s' → r ≡ r'
call_length_one κs a r r' s s' p q = p ∙ sym q

pub row_of_one : (κs : _) (a : _) (r r' : _) (s s' : _) → row_of.Post κs a r s → row_of.Post κs a r' s' → r ≡ r'
row_of_one κs a r r' s s' p q = p ∙ sym q

pub hands_over_one : (κs : _) (a : _) (r r' : _) (s s' : _) → hands_over.Post κs a r s → hands_over.Post κs a r' s' → r ≡ r'
hands_over_one κs a r r' s s' p q = p ∙ sym q

pub room_of_one : (κs : _) (a : _) (r r' : _) (s s' : _) → room_of.Post κs a r s → room_of.Post κs a r' s' → r ≡ r'
room_of_one κs a r r' s s' p q = p ∙ sym q
