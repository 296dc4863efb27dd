-- `base_octets::copy_octets` meets its contract. The invariant: the first i octets are laid.
use mathlib.Core.Path.{◌≡◌}
use lib.ListN.{take}
use Rattle.base_laws.specs.Lists.{laid}
use Rattle.base_octets.proofs.copy_octets.Given as goal

abbrev pub invariant-loop-i : goal.invariant-loop-i
invariant-loop-i l = l.into ≡ laid l.at (take l.i l.from) l.initial.into
