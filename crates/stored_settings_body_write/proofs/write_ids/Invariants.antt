-- `stored_settings_body_write::write_ids` meets its contract. The invariant: the first i IDs are laid.
use mathlib.Core.Path.{◌≡◌}
use lib.ListN.{take}
use Rattle.base_laws.specs.Lists.{laid}
use Rattle.stored_settings_body.specs.Body.{ids_octets}
use Rattle.stored_settings_body_write.proofs.write_ids.Given as goal

abbrev pub invariant-loop-i : goal.invariant-loop-i
invariant-loop-i l = l.into ≡ laid l.at (ids_octets (take l.i l.ids)) l.initial.into
