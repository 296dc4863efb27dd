-- The session is read, updated by the rule, and put back. Assumes nothing.
use Rattle.std.specs.Prelude.{Result}
use Rattle.std.proofs.Common.{[], ap, ◌∙◌, ap₂}
use Rattle.base_laws.specs.Ended.{ended}
use Rattle.loss_session.specs.declared.LossSession.{LossSession}
use Rattle.loss_session.specs.Session.{readings}
use Rattle.loss_reading.specs.Reading.{after_reading}
use Rattle.state_view.specs.State.{State, view_of}
use Rattle.receive_answer.specs.declared.FrameRefusal.{FrameRefusal}
use Rattle.receive_answer.specs.declared.FrameDone.{FrameDone}
use Rattle.receive_change.specs.Change.{taken}
use Rattle.receive_change.proofs.take_counts.Goals as goal

pub returns : goal.returns
returns c = let a = c.args in
    let s = view_of a.settings.set.now a.settings.names.now a.settings.ids.now a.timers.now a.rdi.now a.run.now a.totals.now in record {
      totals_value = ap₂ (λ (x : Result FrameDone FrameRefusal) (t : State). ended x t []) c.answer_of.ensures c.put_session.ensures.totals_value
          ∙ ap (taken s) (c.take_reading-updated.ensures.0
          ∙ ap (λ (x : LossSession). after_reading x (readings a.txf a.rxf a.txb s.received))
          c.session_of.ensures);
      whole = c.put_session.ensures.whole;
    }
