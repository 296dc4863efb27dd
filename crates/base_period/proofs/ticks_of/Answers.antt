-- `base_period::ticks_of` meets its contract: the row of the code.
use mathlib.Core.Path.{ap}
use Rattle.base_period.specs.declared.Period.{Period}
use Rattle.base_period.proofs.ticks_of.Goals as goal

pub returns : goal.returns
returns c = ap (λ (p : Period). p.ticks) c.from_code.ensures
