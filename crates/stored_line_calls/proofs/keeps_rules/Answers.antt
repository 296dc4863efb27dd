-- `stored_line_calls::keeps_rules` meets its contract: the rules of the session that it makes.
use mathlib.Core.Path.{◌≡◌}
use mir.Syntax.{w64}
use mir.Val.{to_z, of_z}
use borrow.Author.Rules.{rules}
use Rattle.stored_line_calls.proofs.keeps_rules.Goals as goal

pub returns : goal.returns
returns c =
    let a = c.args in
    let near : to_z w64 (of_z w64 a.line.near) ≡ a.line.near = search rules in
    let far : to_z w64 (of_z w64 a.line.far) ≡ a.line.far = search rules in
    let none : c.default.result ≡ record { txf = 0; rxf = 0; txb = 0; ours = 0 } = search rules in
    rw (near, far, none) at c.well_formed-2.ensures
