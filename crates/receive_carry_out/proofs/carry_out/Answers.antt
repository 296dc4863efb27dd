-- Each arm is its line of `carried_out`. Assumes nothing.
use Prim.Native.Nat.{ℕ}
use mathlib.Core.Path.{◌≡◌, sym, ap, ap₂, ◌∙◌}
use mathlib.Core.List.{List}
use lib.ListN.{length}
use Rattle.std.specs.Prelude.{Result}
use Rattle.base_laws.specs.Ended.{ended}
use Rattle.state_view.specs.State.{view_of, run_words}
use Rattle.receive_answer.specs.declared.FrameRefusal.{FrameRefusal}
use Rattle.receive_answer.specs.declared.FrameDone.{FrameDone}
use Rattle.receive_carry_out.specs.CarryOut.{beside, carried_out}
use borrow.Author.Rules.{rules}
use Rattle.receive_carry_out.proofs.carry_out.Goals as goal

pub returns-in-Drops : goal.returns-in-Drops
unfolding carried_out
returns-in-Drops c = let a = c.args in
    let s = view_of a.settings.set.now a.settings.names.now a.settings.ids.now a.timers.now a.rdi.now a.run.now a.totals.now in
    let f = a.frame.now in
    let o = a.out.now in
    let w : length a.run.now ≡ run_words = search rules in
    let z : length a.totals.now ≡ 2 = search rules in
    record { out_after = sym (ap (carried_out s f a.receive a.transmit o) c.in-Drops.is); whole = record { words = w; both = z } }

pub returns-in-Passes : goal.returns-in-Passes
unfolding carried_out
returns-in-Passes c = let a = c.args in
    let s = view_of a.settings.set.now a.settings.names.now a.settings.ids.now a.timers.now a.rdi.now a.run.now a.totals.now in
    let f = a.frame.now in
    let o = a.out.now in
    let w : length a.run.now ≡ run_words = search rules in
    let z : length a.totals.now ≡ 2 = search rules in
    record { out_after = sym (ap (carried_out s f a.receive a.transmit o) c.in-Passes.is); whole = record { words = w; both = z } }

pub returns-in-Changes : goal.returns-in-Changes
unfolding carried_out
returns-in-Changes c = let a = c.args in
    let s = view_of a.settings.set.now a.settings.names.now a.settings.ids.now a.timers.now a.rdi.now a.run.now a.totals.now in
    let f = a.frame.now in
    let o = a.out.now in record {
      out_after = ap (beside o) c.apply.ensures.totals_value
          ∙ sym (ap (carried_out s f a.receive a.transmit o) c.in-Changes.is);
      whole = c.apply.ensures.whole;
    }

pub returns-in-Replies : goal.returns-in-Replies
unfolding carried_out
returns-in-Replies c = let a = c.args in
    let s = view_of a.settings.set.now a.settings.names.now a.settings.ids.now a.timers.now a.rdi.now a.run.now a.totals.now in
    let f = a.frame.now in
    let o = a.out.now in
    let w : length a.run.now ≡ run_words = search rules in
    let z : length a.totals.now ≡ 2 = search rules in record {
      out_after = ap₂ (λ (x : Result FrameDone FrameRefusal) (y : List ℕ). ended x s y) c.respond.ensures.value
          c.respond.ensures.out_after
          ∙ sym (ap (carried_out s f a.receive a.transmit o) c.in-Replies.is);
      whole = record { words = w; both = z };
    }

pub returns-in-Delays : goal.returns-in-Delays
unfolding carried_out
returns-in-Delays c = let a = c.args in
    let s = view_of a.settings.set.now a.settings.names.now a.settings.ids.now a.timers.now a.rdi.now a.run.now a.totals.now in
    let f = a.frame.now in
    let o = a.out.now in
    let w : length a.run.now ≡ run_words = search rules in
    let z : length a.totals.now ≡ 2 = search rules in record {
      out_after = ap (λ (x : Result FrameDone FrameRefusal). ended x s o) c.delay_answer.ensures
          ∙ sym (ap (carried_out s f a.receive a.transmit o) c.in-Delays.is);
      whole = record { words = w; both = z };
    }
