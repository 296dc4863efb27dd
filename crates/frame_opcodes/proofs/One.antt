-- Two results that a contract allows are equal. Stated over `Reads.Post`, which the check reads off the source's own clauses. Assumes
-- nothing.
use mathlib.Core.Path.{◌≡◌, sym, ◌∙◌}
use Rattle.frame_opcodes.proofs.rule_of.Reads as rule_of

pub rule_of_one : (κs : _) (a : _) (r r' : _) (s s' : _) → rule_of.Post κs a r s → rule_of.Post κs a r' s' → r ≡ r'
rule_of_one κs a r r' s s' p q = p ∙ sym q
