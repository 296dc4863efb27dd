-- `base_number_write::count_digits` meets its contract: one digit below 10, two from there on.
use mathlib.Core.Path.{sym, ap}
use native.Mathlib.Omega.{arith}
use lib.ListN.{length}
use Rattle.base_number_text.proofs.Last.{digits-one, digits-two}
use Rattle.base_number_write.proofs.count_digits.Goals as goal

pub returns-then-pair-lt10 : goal.returns-then-pair-lt10
returns-then-pair-lt10 c = sym (ap length (digits-one c.args.pair (omega arith)))

pub returns-else-pair-lt10 : goal.returns-else-pair-lt10
returns-else-pair-lt10 c = sym (ap length (digits-two c.args.pair (omega arith) (omega arith)))
