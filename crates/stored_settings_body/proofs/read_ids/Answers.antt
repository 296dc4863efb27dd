-- `stored_settings_body::read_ids` meets its contract. The invariant: the first i IDs are read.
use Prim.Native.Nat.{ℕ}
use mathlib.Core.Path.{ap, ◌∙◌}
use mathlib.Core.List.{List}
use native.Mathlib.Omega.{arith}
use lib.ListN.{set}
use Rattle.stored_settings_body.proofs.Ids.{read-start, read_turn, read_all}
use Rattle.stored_settings_body.proofs.read_ids.Goals as goal

pub loop-i-init : goal.loop-i-init
loop-i-init c = read-start _ _

pub loop-i-preserved : goal.loop-i-preserved
loop-i-preserved c =
    let l = c.loop-i in
    let a = c.args in
    let v = c.read_little.result in
    ap (λ (m : List ℕ). set m l.i v) l.invariant ∙ read_turn l.i v a.from.now a.ids.now (omega arith) c.read_little.ensures.is

pub returns : goal.returns
returns c = let l = c.loop-i in read_all l.i c.args.from.now c.args.ids.now l.invariant (omega arith)
