-- `receive_delay::pair` meets its contract: both are given.
use mathlib.Core.Path.{ap₂}
use mathlib.Core.Bool.{◌&&◌}
use Rattle.receive_delay.proofs.pair.Goals as goal

pub returns : goal.returns
returns c = ap₂ ◌&&◌ c.given_stamp.ensures c.given_stamp-2.ensures
