-- `frame_ccm::meg_in` meets its contract: 48 octets, with their place.
use mathlib.Core.Path.{refl}
use Rattle.base_laws.specs.Lists.{part}
use Rattle.frame_ccm.proofs.meg_in.Goals as goal

pub returns : goal.returns
unfolding part
returns c = (refl, refl)
