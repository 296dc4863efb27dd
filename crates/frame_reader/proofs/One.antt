-- Two results that a contract allows are equal; of a returned part, its octets and its place. Stated over `Reads.Post`, which the check
-- reads
-- off the source's own clauses. Assumes nothing.
use mathlib.Core.Path.{◌≡◌, sym, ◌∙◌}
use Rattle.frame_reader.proofs.tlv_value.Reads as tlv_value
use Rattle.frame_reader.proofs.tlv_answer.Reads as tlv_answer

pub tlv_value_one : (κs : _) (a : _) (r r' : _) (s s' : _) → tlv_value.Post κs a r s → tlv_value.Post κs a r' s' → (r.now ≡ r'.now)
    × (r.ref_ptr ≡ r'.ref_ptr)
tlv_value_one κs a r r' s s' p q = (p.0 ∙ sym q.0, p.1 ∙ sym q.1)

pub tlv_answer_one : (κs : _) (a : _) (r r' : _) (s s' : _) → tlv_answer.Post κs a r s → tlv_answer.Post κs a r' s' → r ≡ r'
tlv_answer_one κs a r r' s s' p q = p.0 ∙ sym q.0
