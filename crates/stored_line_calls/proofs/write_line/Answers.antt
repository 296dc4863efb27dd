-- `stored_line_calls::write_line` meets its contract: three fields, each laid behind the one before it, are the body; it and whether the
-- line keeps the rules
-- are handed to the writer of records.
use mathlib.Core.Path.{◌≡◌, refl, ap₂, ◌∙◌}
use mathlib.Core.Bool.{Bool}
use mathlib.Core.List.{List}
use Prim.Native.Nat.{ℕ}
use mir.Syntax.{w64}
use mir.Val.{to_z, of_z}
use lib.ListN.{replicate}
use Rattle.stored_record.specs.Writing.{write_record, record_numbers}
use Rattle.stored_line.specs.Line.{line_body}
use Rattle.stored_line.specs.LineCalls.{write_line}
use Rattle.stored_line.proofs.Laws.{body_laid}
use borrow.Author.Rules.{rules}
use Rattle.stored_line_calls.proofs.write_line.Goals as goal

pub returns : goal.returns
unfolding write_line
returns c =
    let a = c.args in
    let w = c.write_record in
    let good = c.keeps_rules.ensures in
    let near : to_z w64 (of_z w64 a.line.near) ≡ a.line.near = search rules in
    let far : to_z w64 (of_z w64 a.line.far) ≡ a.line.far = search rules in
    let body : c.write_little.new.into ≡ line_body a.line = body_laid a.line (replicate 20 0) refl
    near far c.write_little_signed.ensures
    c.write_little_signed-2.ensures c.write_little.ensures
    in (
      w.ensures.0 ∙ ap₂ (λ (b : Bool) (l : List ℕ). write_record b 2 l a.into.now) good body,
      w.ensures.1 ∙ ap₂ (λ (b : Bool) (l : List ℕ). record_numbers b l a.into.now) good body,
    )
