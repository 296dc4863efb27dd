-- `receive_delay::difference` meets its contract: two widened stamps, subtracted with their sign.
use native.Mathlib.Omega.{arith}
use mathlib.Core.Path.{ap₂, ◌∙◌}
use lib.IntN.{sub_ℕ}
use mir.Facts.{to_z-of_z}
use Rattle.base_laws.proofs.Stored.{widened_less, widened_less-fits}
use Rattle.base_laws.proofs.Signed.{sub-size}
use Rattle.receive_delay.proofs.Laws.{furthest}
use Rattle.receive_delay.proofs.difference.Goals as goal

pub overflow_sub-result : goal.overflow_sub-result
overflow_sub-result c = widened_less-fits c.widened.result c.widened-2.result (omega arith) (omega arith)

pub returns : goal.returns
returns c = let to = c.widened in
    let from = c.widened-2 in
    let e = to_z-of_z (widened_less-fits to.result from.result (omega arith) (omega arith)) ∙ widened_less to.result from.result (omega arith) (omega arith) in
    rw e (ap₂ sub_ℕ to.ensures.0 from.ensures.0, sub-size to.result from.result furthest to.ensures.1 from.ensures.1)
