-- What C is answered to a new setting, and the state that is returned: those of `call_setting`, the answer by its number. Definitions only.
use Rattle.std.specs.Prelude.{ℕ, List}
use Rattle.state_settings.specs.Settings.{settings_of}
use Rattle.call_setting.specs.declared.NewBox.{NewBox}
use Rattle.call_setting.specs.Start.{setting_of, setting_numbers}

abbrev pub new_box : List ℕ → List ℕ → List ℕ → NewBox
new_box words names ids = record { refusal = (setting_numbers (settings_of words names ids)).refusal; state = (setting_of words names ids).state }
