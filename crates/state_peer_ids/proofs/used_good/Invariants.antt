-- `state_peer_ids::used_good` meets its contract. The invariant: the IDs before i are good, and no two of them are alike.
use Rattle.state_peer_ids.proofs.Used.{Held}
use Rattle.state_peer_ids.proofs.used_good.Given as goal

abbrev pub invariant-loop-i : goal.invariant-loop-i
invariant-loop-i l = Held l.mep l.ids l.used l.i
