-- `linkbox_state::linkbox_raw_new_setting` meets its contract: the room's state, and its answer by its number.
use Prim.Native.Nat.{ℕ}
use mathlib.Core.Path.{◌≡◌, ap, ◌∙◌}
use mathlib.Core.List.{List}
use Rattle.std.specs.Prelude.{Result}
use Rattle.state_settings.specs.Settings.{settings_of}
use Rattle.call_setting.specs.declared.SettingRefusal.{SettingRefusal}
use Rattle.call_setting.specs.declared.SettingTold.{SettingTold}
use Rattle.call_setting.specs.Told.{setting_told}
use Rattle.call_setting.specs.Start.{setting_of, box_of}
use Rattle.call_setting.proofs.Starts.{starts}
use Rattle.linkbox_state.specs.NewBox.{new_box}
use Rattle.linkbox_state.proofs.linkbox_raw_new_setting.Goals as goal

-- the number of the room's answer is that of its settings
told : (words names ids : List ℕ) → box_of (setting_of words names ids) ≡ new_box words names ids
told words names ids =
    let number : (setting_told (setting_of words names ids).answer).refusal ≡ (new_box words names ids).refusal =
    ap (λ (x : Result Unit SettingRefusal). (setting_told x).refusal) (starts.answers words names ids)
    ∙ ap (λ (x : SettingTold). x.refusal) (starts.agree (settings_of words names ids)) in
    ap (λ (n : ℕ). record { refusal = n; state = (setting_of words names ids).state }) number

pub returns-clause-value : goal.returns-clause-value
returns-clause-value c = c.new_box.ensures.value ∙ told c.args.set.now c.args.names.now c.args.ids.now
