-- Two results that a contract allows are equal. Stated over `Reads.Post`, which the check reads off the source's own clauses. Assumes
-- nothing.
use mathlib.Core.Path.{◌≡◌, sym, ◌∙◌}
use Rattle.base_words.proofs.all_within.Reads as all_within
use Rattle.base_words.proofs.zero_from.Reads as zero_from
use Rattle.base_words.proofs.place_of.Reads as place_of
use Rattle.base_words.proofs.front.Reads as front

pub all_within_one : (κs : _) (a : _) (r r' : _) (s s' : _) → all_within.Post κs a r s → all_within.Post κs a r' s' → r ≡ r'
all_within_one κs a r r' s s' p q = p ∙ sym q

pub zero_from_one : (κs : _) (a : _) (r r' : _) (s s' : _) → zero_from.Post κs a r s → zero_from.Post κs a r' s' → r ≡ r'
zero_from_one κs a r r' s s' p q = p ∙ sym q

pub place_of_one : (κs : _) (a : _) (r r' : _) (s s' : _) → place_of.Post κs a r s → place_of.Post κs a r' s' → r ≡ r'
place_of_one κs a r r' s s' p q = p ∙ sym q

-- of a returned part, its words and its place
pub front_one : (κs : _) (a : _) (r r' : _) (s s' : _) → front.Post κs a r s → front.Post κs a r' s' → (r.now ≡ r'.now) × (r.ref_ptr ≡ r'.ref_ptr)
front_one κs a r r' s s' p q = (p.0 ∙ sym q.0, p.1 ∙ sym q.1)
