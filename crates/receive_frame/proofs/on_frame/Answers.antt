-- Three refusals, then what is decided is carried out; each a law of `frame_of` (Stages). Assumes nothing.
use mathlib.Core.Path.{◌≡◌, sym, ap, ap₂, ◌∙◌}
use mathlib.Core.Bool.{Bool, ◌&&◌}
use borrow.Author.Tests.{not-false, not-true}
use mathlib.Core.List.{List}
use Prim.Native.Nat.{ℕ}
use Rattle.std.specs.Prelude.{Result}
use Rattle.base_laws.specs.Ended.{Ended}
use Rattle.state_view.specs.State.{State, view_of}
use Rattle.base_stamp.specs.declared.Stamp.{Stamp}
use Rattle.receive_answer.specs.Told.{frame_told}
use Rattle.receive_class.specs.declared.Side.{Side}
use Rattle.receive_carry_out.specs.CarryOut.{carried_out}
use Rattle.receive_frame.specs.Frame.{frame_of}
use Rattle.receive_frame.specs.Numbers.{frame_numbers}
use Rattle.receive_frame.proofs.Numbers.{agree}
use Rattle.receive_frame.proofs.Stages.{outside, refused_2, refused_1, refused_6, heeded}
use borrow.Author.Rules.{rules}
use Rattle.receive_answer.specs.declared.FrameRefusal.{FrameRefusal}
use Rattle.receive_answer.specs.declared.FrameDone.{FrameDone}
use Rattle.receive_frame.proofs.on_frame.Goals as goal

-- what the definition's outcome is told
module _ (s : State) (side : Side) (f : List ℕ) (receive transmit : Stamp) (buffer : List ℕ) where
  told : {x : Ended State (Result FrameDone FrameRefusal)} → x ≡ frame_of s side f receive transmit buffer
      → frame_told x.answer ≡ frame_numbers s side f receive transmit buffer
  told e = ap (λ (y : Ended State (Result FrameDone FrameRefusal)). frame_told y.answer) e ∙ agree s side f receive transmit buffer

pub returns-then-not-is_well_formed : goal.returns-then-not-is_well_formed
returns-then-not-is_well_formed c =
    let a = c.args in
    let s = view_of a.settings.set.now a.settings.names.now a.settings.ids.now a.timers.now a.rdi.now a.run.now a.totals.now in
    let f = a.frame.now in
    let o = a.out.now in
    let e = sym (refused_2 s a.side f a.receive a.transmit o (sym c.is_well_formed.ensures ∙ c.if-not-is_well_formed.true)) in
    record {
      out_after = e;
      result_value = told s a.side f a.receive a.transmit o e;
      whole = record { words = search rules; both = search rules };
      wire =
          (record { seconds = search rules; nanoseconds = search rules }, record { seconds = search rules; nanoseconds = search rules });
    }

pub returns-then-frame : goal.returns-then-frame
returns-then-frame c =
    let a = c.args in
    let s = view_of a.settings.set.now a.settings.names.now a.settings.ids.now a.timers.now a.rdi.now a.run.now a.totals.now in
    let f = a.frame.now in
    let o = a.out.now in
    let e =
    sym (refused_1 s a.side f a.receive a.transmit o (sym c.is_well_formed.ensures ∙ c.if-not-is_well_formed.false)
    (not-true _ (sym (outside f) ∙ c.if-frame.true))) in
    record {
      out_after = e;
      result_value = told s a.side f a.receive a.transmit o e;
      whole = record { words = search rules; both = search rules };
      wire =
          (record { seconds = search rules; nanoseconds = search rules }, record { seconds = search rules; nanoseconds = search rules });
    }

pub returns-then-not-good_stamp : goal.returns-then-not-good_stamp
returns-then-not-good_stamp c =
    let a = c.args in
    let s = view_of a.settings.set.now a.settings.names.now a.settings.ids.now a.timers.now a.rdi.now a.run.now a.totals.now in
    let f = a.frame.now in
    let o = a.out.now in
    let e =
    sym (refused_6 s a.side f a.receive a.transmit o (sym c.is_well_formed.ensures ∙ c.if-not-is_well_formed.false)
    (not-false _ (sym (outside f) ∙ c.if-frame.false))
    (sym (ap₂ (λ (x y : Bool). x && y) c.good_stamp.ensures c.good_stamp-2.ensures) ∙ c.if-not-good_stamp.true)) in
    record {
      out_after = e;
      result_value = told s a.side f a.receive a.transmit o e;
      whole = record { words = search rules; both = search rules };
      wire =
          (record { seconds = search rules; nanoseconds = search rules }, record { seconds = search rules; nanoseconds = search rules });
    }

pub returns : goal.returns
returns c =
    let a = c.args in
    let s = view_of a.settings.set.now a.settings.names.now a.settings.ids.now a.timers.now a.rdi.now a.run.now a.totals.now in
    let f = a.frame.now in
    let o = a.out.now in
    let e =
    heeded s a.side f a.receive a.transmit o (sym c.is_well_formed.ensures ∙ c.if-not-is_well_formed.false)
    (not-false _ (sym (outside f) ∙ c.if-frame.false))
    (sym (ap₂ (λ (x y : Bool). x && y) c.good_stamp.ensures c.good_stamp-2.ensures) ∙ c.if-not-good_stamp.false) in
    let d =
    c.carry_out.ensures.out_after ∙ ap (carried_out s f a.receive a.transmit o) c.decide-decision.ensures ∙ sym e in
    record {
      out_after = d;
      result_value = told s a.side f a.receive a.transmit o d;
      whole = c.carry_out.ensures.whole;
      wire =
          (record { seconds = search rules; nanoseconds = search rules }, record { seconds = search rules; nanoseconds = search rules });
    }
