-- `replay_state_write::state_octets` meets its contract: three pieces, each laid behind the one before it.
use mathlib.Core.Path.{◌≡◌, refl, ap, ◌∙◌}
use mathlib.Core.List.{List}
use Prim.Native.Nat.{ℕ}
use lib.ListN.{length, replicate}
use Rattle.base_laws.specs.Lists.{laid}
use Rattle.state_settings.specs.Settings.{slots, settings_of, Shaped, name_octets}
use Rattle.state_view.specs.State.{state_lent}
use Rattle.state_settings.proofs.Shape.{lying-shaped}
use Rattle.replay_session.specs.Session.{session_octets}
use Rattle.replay_state.proofs.State.{state-laid}
use borrow.Author.Rules.{rules}
use Rattle.replay_state_write.proofs.state_octets.Goals as goal

pub returns : goal.returns
returns c =
    let a = c.args.state in
    let g = a.settings in
    let names : length g.names.now ≡ name_octets = search rules in
    let ids : length g.ids.now ≡ slots = search rules in
    let timers : length a.timers.now ≡ slots = search rules in
    let rdi : length a.rdi.now ≡ slots = search rules in
    let b = c.body_of-settings_octets in
    let o = c.session_of in
    let s = c.session_octets-session in
    let w = c.write_running in
    let shaped : Shaped slots (settings_of g.set.now g.names.now g.ids.now) = rw ids at
    (lying-shaped g.set.now g.names.now g.ids.now names) in
    state-laid (state_lent a) (replicate 194 0) shaped timers rdi refl
    (c.copy_octets.ensures ∙ ap (λ (m : List ℕ). laid 0 m (replicate 194 0)) b.ensures)
    w.ensures
    (c.copy_octets-2.ensures ∙ ap (λ (m : List ℕ). laid 157 m w.new.into) (s.ensures ∙ ap session_octets o.ensures))
