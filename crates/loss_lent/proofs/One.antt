-- Two results that the contract allows are equal. Stated over `Reads.Post`, which the check reads off the source's own clauses. Assumes
-- nothing.
use mathlib.Core.Path.{◌≡◌, sym, ◌∙◌}
use Rattle.loss_lent.proofs.answer.Reads as answer

pub answer_one : (κs : _) (a : _) (r r' : _) (s s' : _) → answer.Post κs a r s → answer.Post κs a r' s' → r ≡ r'
answer_one κs a r r' s s' p q = p ∙ sym q
