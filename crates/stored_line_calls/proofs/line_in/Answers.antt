-- `stored_line_calls::line_in` meets its contract: three fields behind the head.
use mathlib.Core.Path.{◌≡◌}
use mir.Syntax.{w64}
use mir.Val.{to_z, of_z}
use Rattle.stored_line.specs.Line.{line_in}
use borrow.Author.Rules.{rules}
use Rattle.stored_line_calls.proofs.line_in.Goals as goal

pub returns : goal.returns
unfolding line_in
returns c =
    let n = c.read_little_signed in
    let f = c.read_little_signed-2 in
    let near : to_z w64 (of_z w64 n.result) ≡ n.result = search rules in
    let far : to_z w64 (of_z w64 f.result) ≡ f.result = search rules in
    rw (near, far) (rw (n.ensures, f.ensures, c.read_little.ensures.is))
