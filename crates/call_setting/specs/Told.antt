-- The paper's number for each answer on a new setting. Definitions only.
use Rattle.std.specs.Prelude.{Result, Ok, Err}
use Rattle.call_setting.specs.declared.SettingRefusal.{SettingRefusal}
use Rattle.call_setting.specs.declared.SettingRefusal.TheVariants.{Invalid}
use Rattle.call_setting.specs.declared.SettingTold.{SettingTold}

-- refusal 4, or none
unfoldable pub setting_told : Result Unit SettingRefusal → SettingTold
setting_told (Err Invalid) = record { refusal = 4 }
setting_told (Ok u) = record { refusal = 0 }
