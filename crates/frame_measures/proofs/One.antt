-- Two results that a contract allows are equal. Stated over `Reads.Post`, which the check reads off the source's own clauses. Assumes
-- nothing.
use mathlib.Core.Path.{◌≡◌, sym, ◌∙◌}
use Rattle.frame_measures.proofs.loss_fields.Reads as loss_fields
use Rattle.frame_measures.proofs.delay_fields.Reads as delay_fields

pub loss_fields_one : (κs : _) (a : _) (r r' : _) (s s' : _) → loss_fields.Post κs a r s → loss_fields.Post κs a r' s' → r ≡ r'
loss_fields_one κs a r r' s s' p q = p ∙ sym q

pub delay_fields_one : (κs : _) (a : _) (r r' : _) (s s' : _) → delay_fields.Post κs a r s → delay_fields.Post κs a r' s' → r ≡ r'
delay_fields_one κs a r r' s s' p q = p ∙ sym q
