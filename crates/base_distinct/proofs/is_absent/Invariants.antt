-- `base_distinct::is_absent` meets its contract. The invariant: the words from there on decide.
use mathlib.Core.Bool.{not}
use lib.Dec.{eqb}
use Rattle.base_laws.proofs.Loops.{Tested}
use Rattle.base_distinct.proofs.is_absent.Given as goal

abbrev pub invariant-loop-word : goal.invariant-loop-word
invariant-loop-word l = Tested (λ y. not (eqb y l.x)) l.words l.word-index
