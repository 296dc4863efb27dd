-- `replay_session::session_octets` meets its contract: eight fields, each laid behind the one before it.
use mathlib.Core.Path.{◌≡◌, refl}
use mir.Syntax.{w64}
use mir.Val.{to_z, of_z}
use lib.ListN.{replicate}
use Rattle.replay_session.proofs.Session.{session-laid}
use borrow.Author.Rules.{rules}
use Rattle.replay_session.proofs.session_octets.Goals as goal

pub returns : goal.returns
returns c =
    let a = c.args in
    let near : to_z w64 (of_z w64 a.s.near) ≡ a.s.near = search rules in
    let far : to_z w64 (of_z w64 a.s.far) ≡ a.s.far = search rules in
    session-laid a.s (replicate 37 0) refl
    c.write_little.ensures
    c.write_little-2.ensures
    c.write_little-3.ensures
    c.write_little-4.ensures
    c.write_little-5.ensures
    near
    c.write_little_signed.ensures
    far
    c.write_little_signed-2.ensures
    c.write_little-6.ensures
