-- `base_words::zero_from` meets its contract. The invariant: the words joined so far are all from i on.
use Prim.Native.Nat.{◌-◌}
use mathlib.Core.Path.{sym, subst}
use mathlib.Core.Bool.{Bool}
use native.Mathlib.Omega.{arith}
use lib.ListN.{get_or}
use Rattle.base_laws.proofs.Loops.{JoinedDown, down-start, down-next, down-all}
use Rattle.base_words.specs.Words.{within}
use Rattle.base_words.proofs.Joins.{one_more}
use Rattle.base_words.proofs.zero_from.Goals as goal

pub loop-i-init : goal.loop-i-init
loop-i-init c = down-start

pub bounds-words-i : goal.bounds-words-i
bounds-words-i c = let l = c.loop-i in
    omega (arith, l.invariant.high)

pub loop-i-preserved : goal.loop-i-preserved
loop-i-preserved c = let l = c.loop-i in
    let a = c.args in
    let w = a.words.now in
    subst (λ (good : Bool). JoinedDown (within 0) a.from w good (l.i - 1)) (sym (one_more l.rest (get_or w (l.i - 1) 0)))
    (down-next l.invariant (omega arith) 0)

pub returns : goal.returns
returns c = down-all c.loop-i.invariant (omega arith)
