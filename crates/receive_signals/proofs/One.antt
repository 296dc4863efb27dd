-- Two outcomes that a contract allows are equal: one answer, and one content of all memory handed over. Stated over `Reads.Post`, which the
-- check reads off the source's own clauses. Assumes nothing.
use mathlib.Core.Path.{◌≡◌, sym, ◌∙◌}
use Rattle.state_view.specs.Arguments.{held_lent, left_signal_lent, writes_signal}
use Rattle.state_places.proofs.Stores.{lies-once}
use Rattle.receive_signals.proofs.set_timers.Reads as set_timers

pub set_timers_one : (κs : _) (a : _) (r r' : _) (s s' : _) → set_timers.Post κs a r s → set_timers.Post κs a r' s'
    → left_signal_lent a s ≡ left_signal_lent a s'
set_timers_one κs a r r' s s' p q =
    lies-once (held_lent writes_signal a) (left_signal_lent a s) (left_signal_lent a s') p.1 q.1 (p.0 ∙ sym q.0)
