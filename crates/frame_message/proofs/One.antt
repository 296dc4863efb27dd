-- Two results that a contract allows are equal. Stated over `Reads.Post`, which the check reads off the source's own clauses. Assumes
-- nothing.
use mathlib.Core.Path.{◌≡◌, sym, ◌∙◌}
use Rattle.frame_message.proofs.code_good.Reads as code_good
use Rattle.frame_message.proofs.message_answer.Reads as message_answer
use Rattle.frame_message.proofs.good_opcode.Reads as good_opcode

pub code_good_one : (κs : _) (a : _) (r r' : _) (s s' : _) → code_good.Post κs a r s → code_good.Post κs a r' s' → r ≡ r'
code_good_one κs a r r' s s' p q = p ∙ sym q

pub message_answer_one : (κs : _) (a : _) (r r' : _) (s s' : _) → message_answer.Post κs a r s → message_answer.Post κs a r' s' → r ≡ r'
message_answer_one κs a r r' s s' p q = p.0 ∙ sym q.0

pub good_opcode_one : (κs : _) (a : _) (r r' : _) (s s' : _) → good_opcode.Post κs a r s → good_opcode.Post κs a r' s' → r ≡ r'
good_opcode_one κs a r r' s s' p q = p ∙ sym q
