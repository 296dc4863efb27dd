-- `call_send_dmm::send_dmm` meets its contract: one law for each way that the call ends.
use mathlib.Core.Path.{ap, ◌∙◌}
use mathlib.Core.Bool.{not}
use Rattle.std.specs.Prelude.{Ok, Err}
use Rattle.std.proofs.lemmas.Result.{err_from_is_err_and}
use Rattle.state_view.specs.State.{state_lent}
use Rattle.state_view.specs.WellFormed.{well_formed}
use Rattle.base_stamp.specs.Stamps.{Wire, good}
use Rattle.message_requests.specs.Requests.{dmm_length}
use Rattle.call_send_answer.specs.Told.{dmm_told}
use Rattle.call_send_answer.proofs.Sender.{taken, left, only, short, sent}
use Rattle.call_send_answer.proofs.Said.{outcome}
use borrow.Author.Rules.{rules}
use Rattle.call_send_dmm.specs.Dmm.{dmm_of, send_dmm}
use Rattle.call_send_dmm.proofs.Dmm.{agree}
use Rattle.call_send_dmm.proofs.send_dmm.Goals as goal

pub returns-then-not-is_well_formed : goal.returns-then-not-is_well_formed
unfolding send_dmm
returns-then-not-is_well_formed c =
    let wire : Wire c.args.stamp = record { seconds = search rules; nanoseconds = search rules } in
    let start = c in
    let a = start.args in
    let s = state_lent a.state in record {
      out_after = outcome dmm_told (agree s a.stamp a.out.now)
          (taken {t = well_formed s} c.is_well_formed.ensures (ap not c.if-not-is_well_formed.true)).is;
      wire = wire;
    }

pub returns-then-not-good_stamp : goal.returns-then-not-good_stamp
unfolding send_dmm
returns-then-not-good_stamp c =
    let wire : Wire c.args.stamp = record { seconds = search rules; nanoseconds = search rules } in
    let start = c in
    let a = start.args in
    let s = state_lent a.state in record {
      out_after = outcome dmm_told (agree s a.stamp a.out.now)
          (left {t = well_formed s} c.is_well_formed.ensures (ap not c.if-not-is_well_formed.false)
          (taken {t = good a.stamp} c.good_stamp.ensures (ap not c.if-not-good_stamp.true))).is;
      wire = wire;
    }

pub returns-in_err-write_dmm : goal.returns-in_err-write_dmm
unfolding dmm_of send_dmm
returns-in_err-write_dmm c =
    let wire : Wire c.args.stamp = record { seconds = search rules; nanoseconds = search rules } in
    let stamp-test = c in
    let test = c in
    let start = c in
    let a = start.args in
    let s = state_lent a.state in
    let w = c.write_dmm.ensures in
    let p = err_from_is_err_and c.from_residual.result c.from_residual.ensures.1 in
    rw (p.1, p.2) (record {
      out_after = outcome dmm_told (agree s a.stamp a.out.now)
          (left {t = well_formed s} test.is_well_formed.ensures (ap not test.if-not-is_well_formed.false)
          (left {t = good a.stamp} stamp-test.good_stamp.ensures (ap not stamp-test.if-not-good_stamp.false)
          (short (dmm_of s a.stamp) a.out.now dmm_length w.into_after.1 w.value.0 w.into_after.0 (c.in_err-write_dmm.was ∙ ap Err (only c.in_err-write_dmm.field-0.0))))).is;
      wire = wire;
    })

pub returns : goal.returns
unfolding dmm_of send_dmm
returns c =
    let wire : Wire c.args.stamp = record { seconds = search rules; nanoseconds = search rules } in
    let stamp-test = c in
    let test = c in
    let start = c in
    let a = start.args in
    let s = state_lent a.state in
    let w = c.write_dmm.ensures in record {
      out_after = outcome dmm_told (agree s a.stamp a.out.now)
          (left {t = well_formed s} test.is_well_formed.ensures (ap not test.if-not-is_well_formed.false)
          (left {t = good a.stamp} stamp-test.good_stamp.ensures (ap not stamp-test.if-not-good_stamp.false)
          (sent (dmm_of s a.stamp) a.out.now dmm_length w.into_after.1 w.value.0 w.into_after.0 Ok c.in_ok-write_dmm.was))).is;
      wire = wire;
    }
