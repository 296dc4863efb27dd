-- `frame_tlvs::walk` meets its contract. The loop's invariant: the walk from here stops where the walk from the start does. The measure is
-- what is left of the PDU.
use mathlib.Core.Path.{◌≡◌}
use Prim.Native.Nat.{◌-◌}
use lib.ListN.{length}
use Rattle.frame_tlvs.specs.Tlvs.{walk_from}
use Rattle.frame_tlvs.proofs.walk.Given as goal

abbrev pub invariant-loop-at : goal.invariant-loop-at
invariant-loop-at l = walk_from l.kind l.at l.pdu ≡ walk_from l.kind l.start l.pdu

abbrev pub decreases-loop-at : goal.decreases-loop-at
decreases-loop-at l = length l.pdu - l.at
