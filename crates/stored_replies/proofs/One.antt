-- Two outcomes that a contract allows are equal: one result, and one content of the buffer. Stated over `Reads.Post`, which the check
-- reads off the source's own clauses. Assumes nothing.
use mathlib.Core.Path.{◌≡◌, sym, ◌∙◌}
use Rattle.base_laws.proofs.Ended.{answer-is, buffer-is}
use Rattle.stored_replies.proofs.Told.{told_one}
use Rattle.stored_replies.proofs.recount.Reads as recount

pub recount_one : (κs : _) (a : _) (r r' : _) (s s' : _) → recount.Post κs a r s → recount.Post κs a r' s' → (r ≡ r')
    × (s.0.now ≡ s'.0.now)
recount_one κs a r r' s s' p q =
    let (_, (_, (session, _))) = a in
    (told_one session (answer-is (p ∙ sym q)), buffer-is (p ∙ sym q))
