-- Two results that a contract allows are equal; of a returned part, its octets and its place. Stated over `Reads.Post`, which the check
-- reads
-- off the source's own clauses. Assumes nothing.
use mathlib.Core.Path.{◌≡◌, sym, ◌∙◌}
use Rattle.frame_head.proofs.length_good.Reads as length_good
use Rattle.frame_head.proofs.is_oam.Reads as is_oam
use Rattle.frame_head.proofs.destination.Reads as destination
use Rattle.frame_head.proofs.source.Reads as source
use Rattle.frame_head.proofs.pdu_of.Reads as pdu_of
use Rattle.frame_head.proofs.level.Reads as level
use Rattle.frame_head.proofs.version.Reads as version

pub length_good_one : (κs : _) (a : _) (r r' : _) (s s' : _) → length_good.Post κs a r s → length_good.Post κs a r' s' → r ≡ r'
length_good_one κs a r r' s s' p q = p ∙ sym q

pub is_oam_one : (κs : _) (a : _) (r r' : _) (s s' : _) → is_oam.Post κs a r s → is_oam.Post κs a r' s' → r ≡ r'
is_oam_one κs a r r' s s' p q = p ∙ sym q

pub destination_one : (κs : _) (a : _) (r r' : _) (s s' : _) → destination.Post κs a r s → destination.Post κs a r' s' → (r.now ≡ r'.now)
    × (r.ref_ptr ≡ r'.ref_ptr)
destination_one κs a r r' s s' p q = (p.0 ∙ sym q.0, p.1 ∙ sym q.1)

pub source_one : (κs : _) (a : _) (r r' : _) (s s' : _) → source.Post κs a r s → source.Post κs a r' s' → (r.now ≡ r'.now)
    × (r.ref_ptr ≡ r'.ref_ptr)
source_one κs a r r' s s' p q = (p.0 ∙ sym q.0, p.1 ∙ sym q.1)

pub pdu_of_one : (κs : _) (a : _) (r r' : _) (s s' : _) → pdu_of.Post κs a r s → pdu_of.Post κs a r' s' → (r.now ≡ r'.now)
    × (r.ref_ptr ≡ r'.ref_ptr)
pdu_of_one κs a r r' s s' p q = (p.0 ∙ sym q.0, p.1 ∙ sym q.1)

pub level_one : (κs : _) (a : _) (r r' : _) (s s' : _) → level.Post κs a r s → level.Post κs a r' s' → r ≡ r'
level_one κs a r r' s s' p q = p ∙ sym q

pub version_one : (κs : _) (a : _) (r r' : _) (s s' : _) → version.Post κs a r s → version.Post κs a r' s' → r ≡ r'
version_one κs a r r' s s' p q = p ∙ sym q
