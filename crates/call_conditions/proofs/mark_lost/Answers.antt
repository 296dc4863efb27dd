-- `call_conditions::mark_lost` meets its contract. The invariant: the first i slots are marked, the others as they were.
use Prim.Native.Nat.{ℕ}
use mathlib.Core.Path.{◌≡◌, refl, ap, ◌∙◌}
use mathlib.Core.List.{List}
use native.Mathlib.Omega.{arith}
use lib.ListN.{set}
use Rattle.base_laws.specs.Lists.{laid}
use Rattle.call_conditions.specs.Conditions.{table, lost_at}
use Rattle.call_conditions.proofs.Table.{table-start, table-next, table-whole}
use Rattle.call_conditions.proofs.mark_lost.Goals as goal

pub loop-i-init : goal.loop-i-init
loop-i-init c = (refl, table-start _ _)

pub loop-i-preserved : goal.loop-i-preserved
loop-i-preserved c =
    let l = c.loop-i in
    let a = c.args in
    let f = lost_at a.count a.timers.now in (
      l.invariant.0,
      ap (λ (m : List ℕ). set m l.i c.flag_of.result) l.invariant.1
          ∙ table-next f a.lost.now l.i c.flag_of.result (omega arith) c.flag_of.ensures,
    )

pub returns : goal.returns
returns c =
    let l = c.loop-i in
    let a = c.args in
    let f = lost_at a.count a.timers.now in
    let e : l.i ≡ 8 = omega arith in
    l.invariant.1 ∙ ap (λ (k : ℕ). laid 0 (table f k) a.lost.now) e ∙ table-whole f a.lost.now 8 (omega arith)
