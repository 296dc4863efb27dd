-- `state_peer_ids::used_good` meets its contract. The invariant: the IDs before i are good, and no two of them are alike.
use Prim.Native.Nat.{◌≤◌}
use mathlib.Core.Path.{sym, ◌∙◌}
use native.Mathlib.Omega.{arith}
use lib.ListN.{length}
use lib.Seq.{length-take-le}
use Rattle.state_peer_ids.proofs.Used.{held_start, held_next, held_all, bad_id, twice}
use Rattle.state_peer_ids.proofs.used_good.Goals as goal

pub loop-i-init : goal.loop-i-init
loop-i-init c =
    let fits : c.args.used ≤ length c.args.ids.now = c.requires in
    let a = c.args in
    held_start a.mep a.ids.now a.used fits

pub bounds-ids-i : goal.bounds-ids-i
bounds-ids-i c =
    let fits : c.args.used ≤ length c.args.ids.now = c.requires in
    omega (arith, fits)

pub returns-then-not-id_good : goal.returns-then-not-id_good
returns-then-not-id_good c =
    let fits : c.args.used ≤ length c.args.ids.now = c.requires in
    let a = c.args in
    bad_id a.mep a.ids.now a.used fits c.loop-i.i (omega arith)
    (sym c.id_good.ensures ∙ c.if-not-id_good.true)

pub slice_bounds-is_absent-end : goal.slice_bounds-is_absent-end
slice_bounds-is_absent-end c =
    let fits : c.args.used ≤ length c.args.ids.now = c.requires in
    let a = c.args in
    sym (length-take-le c.loop-i.i a.ids.now (omega (arith, fits)))

pub returns-then-not-is_absent : goal.returns-then-not-is_absent
returns-then-not-is_absent c =
    let fits : c.args.used ≤ length c.args.ids.now = c.requires in
    let a = c.args in
    twice a.mep a.ids.now a.used fits c.loop-i.i (omega arith)
    (sym c.is_absent.ensures ∙ c.if-not-is_absent.true)

pub loop-i-preserved : goal.loop-i-preserved
loop-i-preserved c =
    let fits : c.args.used ≤ length c.args.ids.now = c.requires in
    let a = c.args in
    let l = c.loop-i in
    let tested = c.id_good in
    held_next a.mep a.ids.now a.used fits l.i l.invariant (omega arith)
    (sym tested.ensures ∙ c.if-not-id_good.false)
    (sym c.is_absent.ensures ∙ c.if-not-is_absent.false)

pub returns : goal.returns
returns c =
    let fits : c.args.used ≤ length c.args.ids.now = c.requires in
    let a = c.args in
    held_all a.mep a.ids.now a.used fits c.loop-i.i c.loop-i.invariant (omega arith)
