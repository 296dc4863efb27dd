-- Two outcomes that a contract allows are equal: one result, and one content of the buffer. Stated over `Reads.Post`, which the check
-- reads off the source's own clauses. Assumes nothing.
use mathlib.Core.Path.{◌≡◌, sym, ◌∙◌}
use Rattle.stored_record.proofs.tell.Reads as tell
use Rattle.base_laws.proofs.Ended.{answer-is, buffer-is}
use Rattle.stored_record.proofs.is_record.Reads as is_record
use Rattle.stored_record.proofs.write_record.Reads as write_record

pub tell_one : (κs : _) (a : _) (r r' : _) (s s' : _) → tell.Post κs a r s → tell.Post κs a r' s' → r ≡ r'
tell_one κs a r r' s s' p q = p ∙ sym q

pub is_record_one : (κs : _) (a : _) (r r' : _) (s s' : _) → is_record.Post κs a r s → is_record.Post κs a r' s' → r ≡ r'
is_record_one κs a r r' s s' p q = p ∙ sym q

pub write_record_one : (κs : _) (a : _) (r r' : _) (s s' : _) → write_record.Post κs a r s → write_record.Post κs a r' s' → (r ≡ r')
    × (s.0.now ≡ s'.0.now)
write_record_one κs a r r' s s' p q = (answer-is (p.0 ∙ sym q.0), buffer-is (p.0 ∙ sym q.0))
