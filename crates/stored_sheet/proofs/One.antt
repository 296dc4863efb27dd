-- Two results that a contract allows are equal. Stated over `Reads.Post`, which the check reads off the source's own clauses. Assumes
-- nothing.
use mathlib.Core.Path.{◌≡◌, sym, ◌∙◌}
use Rattle.stored_sheet.proofs.header.Reads as header

pub header_one : (κs : _) (a : _) (r r' : _) (s s' : _) → header.Post κs a r s → header.Post κs a r' s' → r ≡ r'
header_one κs a r r' s s' p q = p ∙ sym q
