-- The words are stored one after another; that this is the session put is a law (Stores). Assumes nothing.
use mathlib.Core.Path.{◌≡◌}
use lib.ListN.{length, length-set}
use mir.Syntax.{w64}
use mir.Val.{to_z, of_z}
use Rattle.state_view.specs.State.{run_words, loss_totals}
use Rattle.state_places.proofs.Stores as Stores
use borrow.Author.Rules.{rules}
use Rattle.state_places.proofs.put_session.Goals as goal

pub returns : goal.returns
returns c =
    let o = c in
    let a = o.args in
    let w : length a.run.now ≡ run_words = search rules in
    let z : length a.totals.now ≡ loss_totals = search rules in
    let n : to_z w64 (of_z w64 a.session.near) ≡ a.session.near = search rules in
    let f : to_z w64 (of_z w64 a.session.far) ≡ a.session.far = search rules in record {
      totals_value = rw (n, f) (Stores.session a.settings.set.now a.settings.names.now a.settings.ids.now a.timers.now a.rdi.now a.session a.run.now
          a.totals.now w z);
      whole = record { words = simp length-set w; both = simp length-set z };
    }
