-- A delay reply: the reply, and two stamps laid inside it. Assumes nothing.
use Prim.Native.Nat.{ℕ}
use mathlib.Core.List.{List, [], ◌∷◌}
use native.Mathlib.Omega.{arith}
use Rattle.base_stamp.specs.declared.Stamp.{Stamp}
use Rattle.message_parts.specs.Messages.{stamp_octets}
use Rattle.message_parts.proofs.Laid.{stamp-long}
use Rattle.message_reply.proofs.Laid.{over, Within}
use Rattle.message_reply.proofs.Over.{as_long}
use Rattle.message_dmr.specs.Dmr.{dmr_octets, Lengths}

abbrev pub pieces : Stamp → Stamp → List (ℕ × List ℕ)
pieces receive transmit = (26, stamp_octets receive) ∷ (34, stamp_octets transmit) ∷ []

pub within : (receive transmit : Stamp) → Within 50 (pieces receive transmit)
unfolding Within
within receive transmit = (omega (arith, stamp-long receive), (omega (arith, stamp-long transmit), tt))

pub lengths : Lengths
unfolding dmr_octets over
lengths = record {
  dmr = λ own request receive transmit h k. as_long own request h 46 32 (pieces receive transmit) (within receive transmit) k;
}
