-- `base_words::all_within` meets its contract. The invariant: what was found so far, and the words from there on, decide as all do.
use Rattle.base_laws.proofs.Loops.{Joined}
use Rattle.base_words.specs.Words.{within}
use Rattle.base_words.proofs.all_within.Given as goal

abbrev pub invariant-loop-word : goal.invariant-loop-word
invariant-loop-word l = Joined (within l.most) l.words l.good l.word-index
