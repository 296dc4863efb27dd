-- Two results that a contract allows are equal. Stated over `Reads.Post`, which the check reads off the source's own clauses. Assumes
-- nothing.
use mathlib.Core.Path.{◌≡◌, sym, ◌∙◌}
use Rattle.frame_judge.proofs.judge_row.Reads as judge_row
use Rattle.frame_judge.proofs.judge_pdu.Reads as judge_pdu

pub judge_row_one : (κs : _) (a : _) (r r' : _) (s s' : _) → judge_row.Post κs a r s → judge_row.Post κs a r' s' → r ≡ r'
judge_row_one κs a r r' s s' p q = p ∙ sym q

pub judge_pdu_one : (κs : _) (a : _) (r r' : _) (s s' : _) → judge_pdu.Post κs a r s → judge_pdu.Post κs a r' s' → r ≡ r'
judge_pdu_one κs a r r' s s' p q = p ∙ sym q
