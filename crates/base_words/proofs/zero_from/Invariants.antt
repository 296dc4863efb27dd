-- `base_words::zero_from` meets its contract. The invariant: the words joined so far are all from i on.
use lib.Dec.{eqb}
use Rattle.base_laws.proofs.Loops.{JoinedDown}
use Rattle.base_words.specs.Words.{within}
use Rattle.base_words.proofs.zero_from.Given as goal

abbrev pub invariant-loop-i : goal.invariant-loop-i
invariant-loop-i l = JoinedDown (within 0) l.from l.words (eqb l.rest 0) l.i
