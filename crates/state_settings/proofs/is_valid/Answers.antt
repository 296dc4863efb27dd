-- `state_settings::is_valid` meets its contract: the three groups of rules, one behind the other.
use mathlib.Core.Path.{sym, ◌∙◌}
use Rattle.state_settings.specs.Valid.{valid}
use Rattle.state_settings.proofs.is_valid.Goals as goal

pub returns-then-not-numbers_good : goal.returns-then-not-numbers_good
unfolding valid
returns-then-not-numbers_good c = rw (sym c.numbers_good.ensures ∙ c.if-not-numbers_good.true)

pub returns-then-not-addresses_good : goal.returns-then-not-addresses_good
unfolding valid
returns-then-not-addresses_good c = rw (
  sym c.numbers_good.ensures
      ∙ c.if-not-numbers_good.false,
  sym c.addresses_good.ensures ∙ c.if-not-addresses_good.true,
)

pub returns : goal.returns
unfolding valid
returns c = rw (
  sym c.numbers_good.ensures
      ∙ c.if-not-numbers_good.false,
  sym c.addresses_good.ensures
      ∙ c.if-not-addresses_good.false,
) c.peers_good.ensures
