-- `call_setting::none` meets its contract.
use mathlib.Core.Path.{refl}
use Rattle.call_setting.specs.Told.{setting_told}
use Rattle.call_setting.specs.Start.{no_state}
use Rattle.call_setting.proofs.none.Goals as goal

pub returns : goal.returns
unfolding no_state setting_told
returns c = refl
