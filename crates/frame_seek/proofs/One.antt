-- Two results that a contract allows are equal. Stated over `Reads.Post`, which the check reads off the source's own clauses. Assumes
-- nothing.
use mathlib.Core.Path.{◌≡◌, sym, ◌∙◌}
use Rattle.frame_seek.proofs.seek_pdu.Reads as seek_pdu
use Rattle.frame_seek.proofs.seek_frame.Reads as seek_frame

pub seek_pdu_one : (κs : _) (a : _) (r r' : _) (s s' : _) → seek_pdu.Post κs a r s → seek_pdu.Post κs a r' s' → r ≡ r'
seek_pdu_one κs a r r' s s' p q = p.0 ∙ sym q.0

pub seek_frame_one : (κs : _) (a : _) (r r' : _) (s s' : _) → seek_frame.Post κs a r s → seek_frame.Post κs a r' s' → r ≡ r'
seek_frame_one κs a r r' s s' p q = p.0 ∙ sym q.0
