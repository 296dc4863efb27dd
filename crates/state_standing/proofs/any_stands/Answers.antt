-- `state_standing::any_stands` meets its contract: seven tests, one beside the other.
use mathlib.Core.Path.{ap, ◌∙◌}
use Rattle.base_laws.specs.Lists.{absent}
use Rattle.state_standing.specs.Standing.{standing}
use Rattle.state_standing.proofs.any_stands.Goals as goal

pub returns : goal.returns
unfolding standing
returns c = rw (c.is_absent-heard.ensures ∙ ap (absent 0) c.front.ensures.0)
