-- `frame_message::good_opcode` meets its contract: the opcode that the answer tells.
use mathlib.Core.Path.{ap, ◌∙◌}
use Rattle.frame_message_answer.specs.declared.MessageTold.{MessageTold}
use Rattle.frame_message.proofs.good_opcode.Goals as goal

pub returns : goal.returns
returns c = ap (λ (t : MessageTold). t.opcode) (c.tell.ensures ∙ c.message_answer.ensures.1)
