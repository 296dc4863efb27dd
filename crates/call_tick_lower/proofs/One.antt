-- Two outcomes that a contract allows are equal: one content of each array. Stated over `Reads.Post`, which the check reads off the
-- source's own clauses. Assumes nothing.
use mathlib.Core.Path.{◌≡◌, sym, ◌∙◌}
use Rattle.state_view.specs.Arguments.{held_lent, left_tick_lent, writes_tick}
use Rattle.state_places.proofs.Stores.{lies-once}
use Rattle.call_tick_lower.proofs.pass_tick.Reads as pass_tick

pub pass_tick_one : (κs : _) (a : _) (r r' : _) (s s' : _) → pass_tick.Post κs a r s → pass_tick.Post κs a r' s'
    → left_tick_lent a s ≡ left_tick_lent a s'
pass_tick_one κs a r r' s s' p q = lies-once (held_lent writes_tick a) (left_tick_lent a s) (left_tick_lent a s') p.1 q.1 (p.0 ∙ sym q.0)
