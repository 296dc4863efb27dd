-- `frame_tlvs::tlvs_whole` meets its contract: whether the walk for the end is cut.
use mathlib.Core.Path.{sym, ap, ◌∙◌}
use mathlib.Core.Bool.{Bool, not}
use Rattle.frame_tlvs.specs.declared.Place.{Place}
use Rattle.frame_tlvs.specs.Tlvs.{is_cut}
use Rattle.frame_tlvs.proofs.tlvs_whole.Goals as goal

-- what a place tells

abbrev told : Place → Bool
told w = not (is_cut w)

pub returns-in-End : goal.returns-in-End
returns-in-End c = ap told (sym c.in-End.is ∙ c.walk.ensures.0)

pub returns-in-Found : goal.returns-in-Found
returns-in-Found c = ap told (sym c.in-Found.is ∙ c.walk.ensures.0)

pub returns-in-Cut : goal.returns-in-Cut
returns-in-Cut c = ap told (sym c.in-Cut.is ∙ c.walk.ensures.0)
