-- Two outcomes that a contract allows are equal: one answer, and one content of all memory handed over. Stated over `Reads.Post`, which the
-- check reads off the source's own clauses. Assumes nothing.
use mathlib.Core.Path.{◌≡◌, sym, ◌∙◌}
use Rattle.state_view.specs.Arguments.{fifth}
use Rattle.receive_respond.proofs.respond.Reads as respond

pub respond_one : (κs : _) (a : _) (r r' : _) (s s' : _) → respond.Post κs a r s → respond.Post κs a r' s'
    → (r ≡ r') × ((fifth s.1).now ≡ (fifth s'.1).now)
respond_one κs a r r' s s' p q = (p.0 ∙ sym q.0, p.1 ∙ sym q.1)
