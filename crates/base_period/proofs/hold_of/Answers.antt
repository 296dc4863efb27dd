-- `base_period::hold_of` meets its contract: the row of the code.
use mathlib.Core.Path.{ap}
use Rattle.base_period.specs.declared.Period.{Period}
use Rattle.base_period.proofs.hold_of.Goals as goal

pub returns : goal.returns
returns c = ap (λ (p : Period). p.hold) c.from_code.ensures
