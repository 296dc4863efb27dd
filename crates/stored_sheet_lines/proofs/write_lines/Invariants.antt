-- `stored_sheet_lines::write_lines` meets its contract. The loop's invariant: the text of the records so far stands in the buffer, and the
-- text of the rest is still to come.
use Prim.Native.Nat.{◌≤◌}
use mathlib.Core.Path.{◌≡◌}
use lib.ListN.{length}
use Rattle.std.specs.Slice.Iter.{chunks_rest, chunks_size}
use Rattle.stored_sheet_lines.specs.Chunk.{room}
use Rattle.stored_sheet_lines.proofs.Turns.{SoFar}
use Rattle.stored_sheet_lines.proofs.write_lines.Given as goal

abbrev pub invariant-loop-record : goal.invariant-loop-record
invariant-loop-record l = SoFar l.from l.initial.into l.into (chunks_rest l.record-iterator) l.at × (room l.from ≤ length l.initial.into)
    × (chunks_size l.record-iterator ≡ 24)
