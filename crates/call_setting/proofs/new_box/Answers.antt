-- `call_setting::new_box` meets its contract: zeros where the settings are not valid, else the starting state.
use Prim.Native.Nat.{ℕ}
use mathlib.Core.Path.{◌≡◌, sym, ap, ◌∙◌}
use mathlib.Core.Bool.{Bool, true, false, cond}
use mathlib.Core.List.{List}
use Rattle.state_settings.specs.Settings.{settings_of}
use Rattle.state_settings.specs.Valid.{valid}
use Rattle.state_settings.proofs.Shape.{handed-shaped}
use Rattle.call_setting.specs.declared.NewBox.{NewBox}
use Rattle.call_setting.specs.Start.{started_with, no_state, setting_of, box_of}
use borrow.Author.Rules.{rules}
use Rattle.call_setting.proofs.new_box.Goals as goal

-- the definition's way, by whether the settings are valid

chosen : (words names ids : List ℕ) (r : NewBox) (b : Bool) → valid (settings_of words names ids) ≡ b
    → r ≡ box_of (cond b (started_with words names ids) no_state)
    → r ≡ box_of (setting_of words names ids)
unfolding setting_of
chosen words names ids r b v e = e ∙ sym (ap (λ (x : Bool). box_of (cond x (started_with words names ids) no_state)) v)

pub returns-then-not-is_valid : goal.returns-then-not-is_valid
returns-then-not-is_valid c = let a = c.args in
    let v = sym c.is_valid.ensures ∙ c.if-not-is_valid.true in record { value = chosen a.set.now a.names.now a.ids.now _ false v c.none.ensures; shaped = handed-shaped a.set.now a.names.now a.ids.now (search rules) (search rules) }

pub returns : goal.returns
returns c = let a = c.args in
    let v = sym c.is_valid.ensures ∙ c.if-not-is_valid.false in record { value = chosen a.set.now a.names.now a.ids.now _ true v c.begin.ensures; shaped = handed-shaped a.set.now a.names.now a.ids.now (search rules) (search rules) }
