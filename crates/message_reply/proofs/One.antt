-- Two outcomes that a contract allows are equal: one content of the buffer. Stated over `Reads.Post`, which the check reads off the
-- source's own clauses. Assumes nothing.
use mathlib.Core.Path.{◌≡◌, sym, ◌∙◌}
use Rattle.message_reply.proofs.write_reply.Reads as write_reply

pub write_reply_one : (κs : _) (a : _) (r r' : _) (s s' : _) → write_reply.Post κs a r s → write_reply.Post κs a r' s'
    → s.0.now ≡ s'.0.now
write_reply_one κs a r r' s s' p q = p ∙ sym q
