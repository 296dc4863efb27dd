-- A loss reply: the reply, and two counts laid inside it. Assumes nothing.
use Prim.Native.Nat.{ℕ}
use mathlib.Core.List.{List, [], ◌∷◌}
use native.Mathlib.Omega.{arith}
use Rattle.message_parts.specs.Messages.{count}
use Rattle.message_parts.proofs.Laid.{count_long}
use Rattle.message_reply.proofs.Laid.{over, Within}
use Rattle.message_reply.proofs.Over.{as_long}
use Rattle.message_lmr.specs.Lmr.{lmr_octets, Lengths}

abbrev pub pieces : ℕ → ℕ → List (ℕ × List ℕ)
pieces received sent = (22, count received) ∷ (26, count sent) ∷ []

pub within : (received sent : ℕ) → Within 30 (pieces received sent)
unfolding Within
within received sent = (omega (arith, count_long received), (omega (arith, count_long sent), tt))

pub lengths : Lengths
unfolding lmr_octets over
lengths = record { lmr = λ own request received sent h k. as_long own request h 42 12 (pieces received sent) (within received sent) k }
