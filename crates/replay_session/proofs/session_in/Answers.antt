-- `replay_session::session_in` meets its contract: each number from its field.
use mathlib.Core.Path.{◌≡◌}
use mir.Syntax.{w64}
use mir.Val.{to_z, of_z}
use borrow.Author.Rules.{rules}
use Rattle.replay_session.proofs.session_in.Goals as goal

pub returns : goal.returns
returns c =
    let n = c.read_little_signed in
    let f = c.read_little_signed-2 in
    let near : to_z w64 (of_z w64 n.result) ≡ n.result = search rules in
    let far : to_z w64 (of_z w64 f.result) ≡ f.result = search rules in
    rw (near, far)
    (rw (
      c.read_little.ensures.is,
      c.read_little-2.ensures.is,
      c.read_little-3.ensures.is,
      c.read_little-4.ensures.is,
      c.read_little-5.ensures.is,
      c.read_little-6.ensures.is,
      n.ensures,
      f.ensures,
    ))
