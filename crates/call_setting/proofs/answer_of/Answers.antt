-- `call_setting::answer_of` meets its contract: 0 tells that the setting is taken, and any other number that it is not.
use borrow.Author.Tests.{eq-eqb, ne_eqb}
use Rattle.call_setting.proofs.answer_of.Goals as goal

pub returns-then-refusal-eq0 : goal.returns-then-refusal-eq0
returns-then-refusal-eq0 c = rw (eq-eqb _ _ c.if-refusal-eq0.true)

pub returns-else-refusal-eq0 : goal.returns-else-refusal-eq0
returns-else-refusal-eq0 c = rw (ne_eqb _ _ c.if-refusal-eq0.false)
