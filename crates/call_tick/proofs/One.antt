-- Two outcomes that a contract allows are equal: one answer, one buffer, and one content of each array. Stated over `Reads.Post`, which the
-- check reads off the source's own clauses. Assumes nothing.
use mathlib.Core.Path.{◌≡◌, sym, ◌∙◌}
use Rattle.state_view.specs.Arguments.{fifth, held_lent, left_tick_lent, writes_tick}
use Rattle.state_places.proofs.Stores.{ends-once}
use Rattle.call_tick.proofs.tick.Reads as tick

pub tick_one : (κs : _) (a : _) (r r' : _) (s s' : _) → tick.Post κs a r s → tick.Post κs a r' s'
    → (r ≡ r') × (left_tick_lent a s ≡ left_tick_lent a s') × ((fifth s.1).now ≡ (fifth s'.1).now)
tick_one κs a r r' s s' p q = ends-once (held_lent writes_tick a) (left_tick_lent a s) (left_tick_lent a s') p.1 q.1 (p.0.0 ∙ sym q.0.0)
