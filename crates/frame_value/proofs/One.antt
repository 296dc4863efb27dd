-- Two results that a contract allows are equal. Stated over `Reads.Post`, which the check reads off the source's own clauses. Assumes
-- nothing.
use mathlib.Core.Path.{◌≡◌, sym, ◌∙◌}
use Rattle.frame_value.proofs.same_data.Reads as same_data
use Rattle.frame_value.proofs.all_zero_test.Reads as all_zero_test
use Rattle.frame_value.proofs.tell.Reads as tell

pub same_data_one : (κs : _) (a : _) (r r' : _) (s s' : _) → same_data.Post κs a r s → same_data.Post κs a r' s' → r ≡ r'
same_data_one κs a r r' s s' p q = p.0 ∙ sym q.0

pub all_zero_test_one : (κs : _) (a : _) (r r' : _) (s s' : _) → all_zero_test.Post κs a r s → all_zero_test.Post κs a r' s' → r ≡ r'
all_zero_test_one κs a r r' s s' p q = p.0 ∙ sym q.0

pub tell_one : (κs : _) (a : _) (r r' : _) (s s' : _) → tell.Post κs a r s → tell.Post κs a r' s' → r ≡ r'
tell_one κs a r r' s s' p q = p ∙ sym q
