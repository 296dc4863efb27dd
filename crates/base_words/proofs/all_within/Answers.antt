-- `base_words::all_within` meets its contract. The invariant: what was found so far, and the words from there on, decide as all do.
use native.Mathlib.Omega.{arith}
use Rattle.base_laws.proofs.Loops.{joined-start, joined-next, joined-all}
use Rattle.base_words.proofs.all_within.Goals as goal

pub loop-word-init : goal.loop-word-init
loop-word-init c = joined-start

pub loop-word-preserved : goal.loop-word-preserved
loop-word-preserved c = joined-next c.loop-word.invariant 0 (omega arith)

pub returns : goal.returns
returns c = joined-all c.loop-word.invariant (omega arith)
