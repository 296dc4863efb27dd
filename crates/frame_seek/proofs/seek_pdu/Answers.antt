-- `frame_seek::seek_pdu` meets its contract: what stands before the TLVs, then where the walk for the type stops, then the walk behind it.
use native.Mathlib.Omega.{arith}
use mathlib.Core.Path.{sym, ◌∙◌, subst}
use Prim.Native.Nat.{◌+◌, ◌≤◌}
use lib.ListN.{length}
use Rattle.std.proofs.lemmas.Result.{err_from_is_err_and}
use Rattle.frame_tlvs.specs.Tlvs.{Inside}
use Rattle.frame_seek.proofs.Seeks.{in_bad, in_cut, in_none, cut_behind, in_value}
use Rattle.frame_seek.proofs.seek_pdu.Goals as goal

pub returns-in_err-start : goal.returns-in_err-start
returns-in_err-start c =
    let p = err_from_is_err_and c.from_residual.result c.from_residual.ensures.1 in
    rw (p.1, p.2) (sym (in_bad _ _ _ (sym c.judge_pdu.ensures ∙ c.in_err-start.was)), tt)

pub overflow_add-at : goal.overflow_add-at
overflow_add-at c =
    let fits : c.in-Found.at + c.in-Found.len ≤ length c.args.pdu.now = subst (Inside c.args.pdu.now) c.in-Found.is c.walk.ensures.1 in
    omega (arith, fits)

pub returns-then-not-tlvs_whole : goal.returns-then-not-tlvs_whole
returns-then-not-tlvs_whole c =
    let starts = sym c.judge_pdu.ensures ∙ c.in_ok-start.was in
    let stops = sym c.walk.ensures.0 ∙ c.in-Found.is in
    (sym (cut_behind _ _ _ starts _ _ stops (sym c.tlvs_whole.ensures ∙ c.if-not-tlvs_whole.true)), tt)

pub returns-in-Cut : goal.returns-in-Cut
returns-in-Cut c =
    let starts = sym c.judge_pdu.ensures ∙ c.in_ok-start.was in
    (sym (in_cut _ _ _ starts _ (sym c.walk.ensures.0 ∙ c.in-Cut.is)), tt)

pub returns-in-End : goal.returns-in-End
returns-in-End c =
    let starts = sym c.judge_pdu.ensures ∙ c.in_ok-start.was in
    (sym (in_none _ _ _ starts _ (sym c.walk.ensures.0 ∙ c.in-End.is)), tt)

pub returns-else-not-tlvs_whole : goal.returns-else-not-tlvs_whole
returns-else-not-tlvs_whole c =
    let fits : c.in-Found.at + c.in-Found.len ≤ length c.args.pdu.now = subst (Inside c.args.pdu.now) c.in-Found.is c.walk.ensures.1 in
    let starts = sym c.judge_pdu.ensures ∙ c.in_ok-start.was in
    let stops = sym c.walk.ensures.0 ∙ c.in-Found.is in
    (sym (in_value _ _ _ starts _ _ stops (sym c.tlvs_whole.ensures ∙ c.if-not-tlvs_whole.false)), fits)
