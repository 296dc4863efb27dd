-- Two results that a contract allows are equal; of a returned part, its octets and its place. Stated over `Reads.Post`, which the check
-- reads
-- off the source's own clauses. Assumes nothing.
use mathlib.Core.Path.{◌≡◌, sym, ◌∙◌}
use Rattle.frame_ccm.proofs.ccm_fields.Reads as ccm_fields
use Rattle.frame_ccm.proofs.meg_id.Reads as meg_id

pub ccm_fields_one : (κs : _) (a : _) (r r' : _) (s s' : _) → ccm_fields.Post κs a r s → ccm_fields.Post κs a r' s' → r ≡ r'
ccm_fields_one κs a r r' s s' p q = p ∙ sym q

pub meg_id_one : (κs : _) (a : _) (r r' : _) (s s' : _) → meg_id.Post κs a r s → meg_id.Post κs a r' s' → (r.now ≡ r'.now)
    × (r.ref_ptr ≡ r'.ref_ptr)
meg_id_one κs a r r' s s' p q = (p.0 ∙ sym q.0, p.1 ∙ sym q.1)
