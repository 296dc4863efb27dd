-- `call_conditions::conditions` meets its contract: refusal 2, or each condition.
use mathlib.Core.Path.{sym, ◌∙◌}
use Rattle.call_conditions.specs.Conditions.{conditions_of}
use Rattle.call_conditions.proofs.conditions.Goals as goal

pub returns-then-not-is_well_formed : goal.returns-then-not-is_well_formed
unfolding conditions_of
returns-then-not-is_well_formed c = rw (sym c.is_well_formed.ensures ∙ c.if-not-is_well_formed.true, c.none.ensures)

pub returns : goal.returns
unfolding conditions_of
returns c = rw (
  sym c.is_well_formed.ensures
      ∙ c.if-not-is_well_formed.false,
  c.shown.ensures,
)
