-- `base_distinct::is_absent` meets its contract. The invariant: the words from there on decide.
use mathlib.Core.Path.{ap}
use mathlib.Core.Bool.{not}
use native.Mathlib.Omega.{arith}
use borrow.Author.Tests.{eq-eqb, ne_eqb}
use Rattle.base_laws.proofs.Loops.{tested_start, tested_next, tested_fails, tested_all}
use Rattle.base_distinct.proofs.is_absent.Goals as goal

pub loop-word-init : goal.loop-word-init
loop-word-init c = tested_start

pub returns-then-word-x : goal.returns-then-word-x
returns-then-word-x c = tested_fails c.loop-word.invariant 0 (omega arith) (ap not (eq-eqb _ _ c.if-word-x.true))

pub loop-word-preserved : goal.loop-word-preserved
loop-word-preserved c = tested_next c.loop-word.invariant 0 (omega arith) (ap not (ne_eqb _ _ c.if-word-x.false))

pub returns : goal.returns
returns c = tested_all c.loop-word.invariant (omega arith)
