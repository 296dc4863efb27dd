-- Test by test, as the definition has them. Assumes nothing.
use mathlib.Core.Path.{sym, ◌∙◌}
use borrow.Author.Tests.{lt-ltb, le-ltb}
use Rattle.receive_class.specs.Class.{class_of}
use Rattle.base_laws.specs.Tests.{choose}
use Rattle.receive_class.proofs.class_of.Goals as goal

pub returns-then-not-is_oam : goal.returns-then-not-is_oam
unfolding class_of choose
returns-then-not-is_oam c = rw (sym c.is_oam.ensures ∙ c.if-not-is_oam.true)

pub returns-then-frame : goal.returns-then-frame
unfolding class_of choose
returns-then-frame c = rw (sym c.is_oam.ensures ∙ c.if-not-is_oam.false, lt-ltb _ 18 c.if-frame.true)

pub returns-then-ours-theirs : goal.returns-then-ours-theirs
unfolding class_of choose
returns-then-ours-theirs c = rw (
  sym c.is_oam.ensures
      ∙ c.if-not-is_oam.false,
  le-ltb _ _ c.if-frame.false,
  ← c.level-theirs.ensures,
  lt-ltb _ _ c.if-ours-theirs.true,
)

pub returns : goal.returns
unfolding class_of choose
returns c = rw (
  sym c.is_oam.ensures
      ∙ c.if-not-is_oam.false,
  le-ltb _ _ c.if-frame.false,
  ← c.level-theirs.ensures,
  le-ltb _ _ c.if-ours-theirs.false,
) c.by_side.ensures
