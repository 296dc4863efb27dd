-- `call_setting::new_setting` meets its contract: the state of the box that is made, and the answer that its number tells.
use mathlib.Core.Path.{◌≡◌, refl, ap, ◌∙◌}
use Rattle.std.specs.Prelude.{Result, Ok, Err}
use Rattle.state_settings.specs.Settings.{settings_of}
use Rattle.call_setting.specs.Told.{setting_told}
use Rattle.call_setting.specs.declared.SettingRefusal.{SettingRefusal}
use Rattle.call_setting.specs.declared.SettingRefusal.TheVariants.{Invalid}
use Rattle.call_setting.specs.declared.Started.{Started}
use Rattle.call_setting.specs.declared.NewBox.{NewBox}
use Rattle.call_setting.specs.Start.{setting_of, box_of, answer_told}
use Rattle.call_setting.proofs.Starts.{agree, answers}
use Rattle.call_setting.proofs.new_setting.Goals as goal

-- the answer comes back from its number

back : (x : Result Unit SettingRefusal) → answer_told (setting_told x).refusal ≡ x
unfolding setting_told
back (Err Invalid) = refl
back (Ok u) = refl

-- what is made of a box that was handed out

module _ (s : Started) (r : NewBox) (answer : Result Unit SettingRefusal) (e : r ≡ box_of s) (f : answer ≡ answer_told r.refusal) where
  answer-is : answer ≡ s.answer
  answer-is = f ∙ ap (λ (x : NewBox). answer_told x.refusal) e ∙ back s.answer

  started : ◌≡◌ {A = Started} (record { answer = answer; state = r.state }) s
  started = rw (answer-is, ap (λ (x : NewBox). x.state) e)

pub returns : goal.returns
returns c = let a = c.args in
    let made = c.new_box-made in
    let s = setting_of a.set.now a.names.now a.ids.now in record {
      value = started s made.result _ made.ensures.value c.answer_of.ensures;
      answer_value =
          ap setting_told (answer-is s made.result _ made.ensures.value c.answer_of.ensures
          ∙ answers a.set.now a.names.now a.ids.now)
          ∙ agree (settings_of a.set.now a.names.now a.ids.now);
      shaped = made.ensures.shaped;
    }
