-- Two outcomes that a contract allows are equal: one result, and one content of the buffer. Stated over `Reads.Post`, which the check
-- reads off the source's own clauses. Assumes nothing.
use mathlib.Core.Path.{◌≡◌, sym, ◌∙◌}
use Rattle.message_parts.proofs.parts.write_stamp.Reads as write_stamp
use Rattle.message_parts.proofs.parts.write_head.Reads as write_head

pub write_stamp_one : (κs : _) (a : _) (r r' : _) (s s' : _) → write_stamp.Post κs a r s → write_stamp.Post κs a r' s'
    → s.0.now ≡ s'.0.now
write_stamp_one κs a r r' s s' p q = p ∙ sym q

pub write_head_one : (κs : _) (a : _) (r r' : _) (s s' : _) → write_head.Post κs a r s → write_head.Post κs a r' s'
    → s.0.now ≡ s'.0.now
write_head_one κs a r r' s s' p q = p ∙ sym q
