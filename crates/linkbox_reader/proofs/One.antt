-- Two outcomes that the contract allows are equal: one answer in numbers. Stated over `Reads.Post`, which the check reads off
-- the source's own clauses. Assumes nothing.
use mathlib.Core.Path.{◌≡◌, sym, ◌∙◌}
use Rattle.linkbox_reader.proofs.linkbox_tlv.Reads as tlv

pub linkbox_tlv_one : (κs : _) (a : _) (r r' : _) (s s' : _) → tlv.Post κs a r s → tlv.Post κs a r' s' → r ≡ r'
linkbox_tlv_one κs a r r' s s' p q = p ∙ sym q
