-- `stored_settings_body::read_ids` meets its contract. The invariant: the first i IDs are read.
use mathlib.Core.Path.{◌≡◌}
use Rattle.base_laws.specs.Lists.{laid}
use Rattle.stored_settings_body.specs.Body.{ids_in}
use Rattle.stored_settings_body.proofs.read_ids.Given as goal

abbrev pub invariant-loop-i : goal.invariant-loop-i
invariant-loop-i l = l.ids ≡ laid 0 (ids_in l.i l.from) l.initial.ids
