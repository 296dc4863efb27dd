-- `base_hex::write_pairs` meets its contract. The invariant: the digits of the first i octets are laid.
use Prim.Native.Nat.{◌≤◌}
use mathlib.Core.Path.{◌≡◌}
use lib.ListN.{length, take}
use Rattle.base_laws.specs.Lists.{laid}
use Rattle.base_hex.specs.Hex.{hex_pairs}
use Rattle.base_hex.proofs.write_pairs.Given as goal

abbrev pub invariant-loop-i : goal.invariant-loop-i
invariant-loop-i l = (l.i ≤ length l.octets) × (length l.into ≡ length l.initial.into) × (l.into ≡ laid l.at (hex_pairs (take l.i l.octets)) l.initial.into)
