-- `base_octets::copy_octets` meets its contract. The invariant: the first i octets are laid.
use native.Mathlib.Omega.{arith}
use mathlib.Core.Path.{ap, sym, ◌∙◌}
use mathlib.Core.List.{List}
use Prim.Native.Nat.{ℕ, ◌+◌}
use lib.ListN.{get_or, set}
use lib.Seq.{take_all}
use Rattle.base_laws.specs.Lists.{laid}
use Rattle.base_laws.proofs.Overlaid.{laid_none}
use Rattle.base_octets.proofs.Turns.{copy_turn}
use Rattle.base_octets.proofs.copy_octets.Goals as goal

pub loop-i-init : goal.loop-i-init
loop-i-init c = sym (laid_none c.args.at c.args.into.now)

pub loop-i-preserved : goal.loop-i-preserved
loop-i-preserved c =
    let l = c.loop-i in
    let a = c.args in
    ap (λ (s : List ℕ). set s (a.at + l.i) (get_or a.from.now l.i 0)) l.invariant
    ∙ copy_turn a.at l.i a.from.now a.into.now (omega arith) (omega arith)

pub returns : goal.returns
returns c =
    let l = c.loop-i in
    let a = c.args in
    l.invariant ∙ ap (λ (s : List ℕ). laid a.at s a.into.now) (take_all l.i a.from.now (omega arith))
