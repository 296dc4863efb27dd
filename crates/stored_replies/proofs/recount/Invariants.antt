-- `stored_replies::recount` meets its contract. The loop's invariant: the records of the replies so far stand in the buffer, and what the
-- rest gives from the session now is still to come.
use Prim.Native.Nat.{◌/◌, ◌≤◌}
use mathlib.Core.Path.{◌≡◌}
use mathlib.Core.Bool.{true}
use lib.ListN.{length}
use Rattle.std.specs.Iterator.Adapters.{enumerate_source, enumerate_count}
use Rattle.std.specs.Slice.Iter.{chunks_exact_rest, chunks_exact_size}
use Rattle.loss_session.specs.Session.{well_formed}
use Rattle.stored_replies.proofs.Turns.{SoFar}
use Rattle.stored_replies.proofs.recount.Given as goal

abbrev pub invariant-loop-i : goal.invariant-loop-i
invariant-loop-i l =
    SoFar l.initial.s l.from l.initial.into l.into (chunks_exact_rest (enumerate_source l.i-iterator)) (enumerate_count l.i-iterator) l.s
    × (chunks_exact_size (enumerate_source l.i-iterator) ≡ 16) × (length l.from / 16 ≤ length l.initial.into / 24)
    × (well_formed l.initial.s ≡ true)
