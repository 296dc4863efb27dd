-- `call_send_lmm::send_lmm` meets its contract: one law for each way that the call ends.
use mathlib.Core.Path.{ap, ◌∙◌}
use mathlib.Core.Bool.{not}
use Rattle.std.specs.Prelude.{Ok, Err}
use Rattle.std.proofs.lemmas.Result.{err_from_is_err_and}
use Rattle.state_view.specs.State.{state_lent}
use Rattle.state_view.specs.WellFormed.{well_formed}
use Rattle.message_requests.specs.Requests.{lmm_length}
use Rattle.call_send_answer.specs.Told.{lmm_told}
use Rattle.call_send_answer.proofs.Sender.{taken, left, only, short, sent}
use Rattle.call_send_answer.proofs.Said.{outcome}
use Rattle.call_send_lmm.specs.Lmm.{lmm_of, send_lmm}
use Rattle.call_send_lmm.proofs.Lmm.{agree}
use Rattle.call_send_lmm.proofs.send_lmm.Goals as goal

pub returns-then-not-is_well_formed : goal.returns-then-not-is_well_formed
unfolding send_lmm
returns-then-not-is_well_formed c =
    let a = c.args in
    let s = state_lent a.state in
    outcome lmm_told (agree s a.out.now) (taken {t = well_formed s} c.is_well_formed.ensures (ap not c.if-not-is_well_formed.true)).is

pub returns-in_err-write_lmm : goal.returns-in_err-write_lmm
unfolding lmm_of send_lmm
returns-in_err-write_lmm c =
    let test = c in
    let a = c.args in
    let s = state_lent a.state in
    let w = c.write_lmm.ensures in
    let p = err_from_is_err_and c.from_residual.result c.from_residual.ensures.1 in
    rw (p.1, p.2) (outcome lmm_told (agree s a.out.now)
    (left {t = well_formed s} test.is_well_formed.ensures (ap not test.if-not-is_well_formed.false)
    (short (lmm_of s) a.out.now lmm_length w.into_after.1 w.value.0 w.into_after.0 (c.in_err-write_lmm.was ∙ ap Err (only c.in_err-write_lmm.field-0.0)))).is)

pub returns : goal.returns
unfolding lmm_of send_lmm
returns c =
    let test = c in
    let a = c.args in
    let s = state_lent a.state in
    let w = c.write_lmm.ensures in
    outcome lmm_told (agree s a.out.now)
    (left {t = well_formed s} test.is_well_formed.ensures (ap not test.if-not-is_well_formed.false)
    (sent (lmm_of s) a.out.now lmm_length w.into_after.1 w.value.0 w.into_after.0 Ok c.in_ok-write_lmm.was)).is
