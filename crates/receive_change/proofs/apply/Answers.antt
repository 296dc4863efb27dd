-- Each arm is its line of `applied`. Assumes nothing.
use Rattle.std.specs.Prelude.{Ok}
use Rattle.std.proofs.Common.{◌≡◌, ℕ, [], length, sym, ap, ◌∙◌, length-set, rules}
use Rattle.base_laws.specs.Ended.{ended}
use Rattle.state_view.specs.State.{State, view_of, run_words}
use Rattle.state_view.specs.Changed.{put}
use Rattle.state_view.specs.Changed as word
use Rattle.state_places.proofs.Stores as Stores
use Rattle.receive_answer.specs.declared.Drop.TheVariants.{Level}
use Rattle.receive_answer.specs.declared.FrameDone.TheVariants.{Dropped, Passed, Taken}
use Rattle.receive_change.specs.Change.{applied}
use Rattle.receive_change.proofs.apply.Goals as goal

pub returns-in-Sent : goal.returns-in-Sent
unfolding applied
returns-in-Sent c = let a = c.args in
    let s = view_of a.settings.set.now a.settings.names.now a.settings.ids.now a.timers.now a.rdi.now a.run.now a.totals.now in
    let w : length a.run.now ≡ run_words = search rules in
    let z : length a.totals.now ≡ 2 = search rules in record {
      totals_value = ap (λ (t : State). ended (Ok Passed) t [])
          (Stores.word a.settings.set.now a.settings.names.now a.settings.ids.now a.timers.now a.rdi.now a.totals.now
          c.one_more-n.result
          word.sent a.run.now w ∙ ap (λ (x : ℕ). put word.sent x s) c.one_more-n.ensures)
          ∙ sym (ap (applied s) c.in-Sent.is);
      whole = record { words = simp length-set w; both = z };
    }

pub returns-in-Received : goal.returns-in-Received
unfolding applied
returns-in-Received c = let a = c.args in
    let s = view_of a.settings.set.now a.settings.names.now a.settings.ids.now a.timers.now a.rdi.now a.run.now a.totals.now in
    let w : length a.run.now ≡ run_words = search rules in
    let z : length a.totals.now ≡ 2 = search rules in record {
      totals_value = ap (λ (t : State). ended (Ok Passed) t [])
          (Stores.word a.settings.set.now a.settings.names.now a.settings.ids.now a.timers.now a.rdi.now a.totals.now
          c.one_more-n-in-Received.result
          word.received a.run.now w ∙ ap (λ (x : ℕ). put word.received x s) c.one_more-n-in-Received.ensures)
          ∙ sym (ap (applied s) c.in-Received.is);
      whole = record { words = simp length-set w; both = z };
    }

pub returns-in-UnexpectedLevel : goal.returns-in-UnexpectedLevel
unfolding applied
returns-in-UnexpectedLevel c = let a = c.args in
    let s = view_of a.settings.set.now a.settings.names.now a.settings.ids.now a.timers.now a.rdi.now a.run.now a.totals.now in
    let w : length a.run.now ≡ run_words = search rules in
    let z : length a.totals.now ≡ 2 = search rules in record {
      totals_value = ap (λ (t : State). ended (Ok (Dropped Level)) t [])
          (Stores.word a.settings.set.now a.settings.names.now a.settings.ids.now a.timers.now a.rdi.now a.totals.now
          c.hold_of.result
          word.unexpected_level a.run.now w ∙ ap (λ (x : ℕ). put word.unexpected_level x s) c.hold_of.ensures)
          ∙ sym (ap (applied s) c.in-UnexpectedLevel.is);
      whole = record { words = simp length-set w; both = z };
    }

pub returns-in-Told : goal.returns-in-Told
unfolding applied
returns-in-Told c = let a = c.args in
    let s = view_of a.settings.set.now a.settings.names.now a.settings.ids.now a.timers.now a.rdi.now a.run.now a.totals.now in
    let z : length a.totals.now ≡ 2 = search rules in record {
      totals_value = ap (λ (t : State). ended (Ok Taken) t []) c.set_timers.ensures.totals_value
          ∙ sym (ap (applied s) c.in-Told.is);
      whole = c.set_timers.ensures.whole;
    }

pub returns-in-Reading : goal.returns-in-Reading
unfolding applied
returns-in-Reading c = let a = c.args in
    let s = view_of a.settings.set.now a.settings.names.now a.settings.ids.now a.timers.now a.rdi.now a.run.now a.totals.now in
    record { totals_value = c.take_counts.ensures.totals_value ∙ sym (ap (applied s) c.in-Reading.is); whole = c.take_counts.ensures.whole }
