-- Two results that a contract allows are equal. Stated over `Reads.Post`, which the check reads off the source's own clauses. Assumes
-- nothing.
use mathlib.Core.Path.{◌≡◌, sym, ◌∙◌}
use Rattle.state_timers.proofs.timers_good.Reads as timers_good
use Rattle.state_timers.proofs.next_good.Reads as next_good

pub timers_good_one : (κs : _) (a : _) (r r' : _) (s s' : _) → timers_good.Post κs a r s → timers_good.Post κs a r' s' → r ≡ r'
timers_good_one κs a r r' s s' p q = p ∙ sym q

pub next_good_one : (κs : _) (a : _) (r r' : _) (s s' : _) → next_good.Post κs a r s → next_good.Post κs a r' s' → r ≡ r'
next_good_one κs a r r' s s' p q = p ∙ sym q
