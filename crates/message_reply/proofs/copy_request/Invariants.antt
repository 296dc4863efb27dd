-- `message_reply::copy_request` meets its contract. The loop's invariant: the first `at` octets are laid.
use mathlib.Core.Path.{◌≡◌}
use Prim.Native.Nat.{◌≤◌}
use lib.ListN.{length, take}
use Rattle.base_laws.specs.Lists.{laid}
use Rattle.message_reply.proofs.copy_request.Given as goal

abbrev pub invariant-loop-at : goal.invariant-loop-at
invariant-loop-at l = record { low : l.at ≤ length l.request; laid : l.into ≡ laid 0 (take l.at l.request) l.initial.into }
