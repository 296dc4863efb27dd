-- Two results that a contract allows are equal. Stated over `Reads.Post`, which the check reads off the source's own clauses. Assumes
-- nothing.
use mathlib.Core.Path.{◌≡◌, sym, ◌∙◌}
use Rattle.frame_tlvs.proofs.walk.Reads as walk
use Rattle.frame_tlvs.proofs.tlvs_whole.Reads as tlvs_whole

pub walk_one : (κs : _) (a : _) (r r' : _) (s s' : _) → walk.Post κs a r s → walk.Post κs a r' s' → r ≡ r'
walk_one κs a r r' s s' p q = p.0 ∙ sym q.0

pub tlvs_whole_one : (κs : _) (a : _) (r r' : _) (s s' : _) → tlvs_whole.Post κs a r s → tlvs_whole.Post κs a r' s' → r ≡ r'
tlvs_whole_one κs a r r' s s' p q = p ∙ sym q
