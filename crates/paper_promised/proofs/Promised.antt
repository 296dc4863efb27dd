-- What follows from the relation for every box that follows it: a clause for each sentence. Assumes nothing.
use mathlib.Core.Path.{◌≡◌, refl, sym, ap, ◌∙◌}
use Rattle.state_view.specs.State.{State}
use Rattle.call_setting.specs.Start.{zero_state}
use Rattle.paper_said.proofs.Started.{zero_own}
use Rattle.paper_said.specs.Calls as call
use Rattle.paper_said.specs.Calls.{Call, nothing, Outcome, NoSetting, Box}
use Rattle.paper_said.specs.Said as said
use Rattle.paper_said.specs.Handling as handling
use Rattle.paper_said.specs.Called as calling
use Rattle.paper_said.specs.Ours.{ours, Follows}
use Rattle.paper_promised.specs.Promised.{Promised, Promises}
use Rattle.paper_said.proofs.Follows.{ours-follows}
use Rattle.paper_said.proofs.Every.{every_call}
use Rattle.paper_promised.proofs.Refused.{line, sentence, left}
use Rattle.paper_promised.proofs.Dropped.{drops, remembered, uncounted}
use Rattle.paper_promised.proofs.Never.{never_d8}
use Rattle.paper_promised.proofs.Stays.{same, stays}

-- ── what is handed out ──

nothing-out : (s : State) (c : Call) → NoSetting c → (ours s c).out ≡ nothing
nothing-out s (call.new_setting t) k = absurd (k t refl)
nothing-out s (call.frame a) k = refl
nothing-out s (call.tick b) k = refl
nothing-out s call.clear k = refl
nothing-out s (call.send_LMM b) k = refl
nothing-out s (call.send_DMM t b) k = refl
nothing-out s call.conditions k = refl

-- ── all of it, for every box that follows ──

promised : (B : Box) → Follows B → Promised B
promised B F = record {
  refuses = λ s c n u. (
    λ e. let x = every_call s c u in line x.1 n (sym (ap (λ (o : Outcome). o.answer) (F.follows s c x.0 u x.1)) ∙ e),
    λ r. let x = sentence r in ap (λ (o : Outcome). o.answer) (F.follows s c x.0 u x.1.0) ∙ x.1.1,
  );
  left = λ s c n u e. let x = every_call s c u in let y = F.follows s c x.0 u x.1 in
      rw y (left x.1 n (sym (ap (λ (o : Outcome). o.answer) y) ∙ e));
  hands_nothing = λ s c u k. let x = every_call s c u in
      ap (λ (o : Outcome). o.out) (F.follows s c x.0 u x.1 ∙ sym (ours-follows.box.follows s c x.0 u x.1))
      ∙ nothing-out s c k;
  zeros = λ s t u h. (zero_state, zero_own, F.follows s (call.new_setting t) _ u (said.by_call (calling.setting_4 t zero_state h zero_own)));
  drops = λ s c n u e h. let x = every_call s c u in let y = F.follows s c x.0 u x.1 in
      rw y (drops x.1 n (sym (ap (λ (o : Outcome). o.answer) y) ∙ e) h);
  remembers = λ s c u r. F.follows s c _ u (remembered r);
  stays = λ s c u w. let x = every_call s c u in let y = F.follows s c x.0 u x.1 in rw y (stays s c x.0 u w x.1);
  uncounted = λ s a u e. let x = every_call s (call.frame a) u in let y = F.follows s (call.frame a) x.0 u x.1 in
      rw y (uncounted x.1 e);
  never_d8 = λ s a u e. let x = every_call s (call.frame a) u in
      never_d8 u.octets u.receive x.1 (sym (ap (λ (o : Outcome). o.answer) (F.follows s (call.frame a) x.0 u x.1)) ∙ e);
  own_id = λ s a u c m e. F.follows s (call.frame a) _ u
      (said.by_rules_5_to_8 (handling.rule_5_mep a c m (λ k p. c.own.oam.heeded.well.settings.others k p.used (p.same ∙ e))));
}

pub promises : Promises
promises = record {
  says = every_call;
  agrees = λ s c o p u x y. sym (ours-follows.box.follows s c o u x) ∙ ours-follows.box.follows s c p u y;
  same_box = λ B C F G s c u. let x = every_call s c u in F.follows s c x.0 u x.1 ∙ sym (G.follows s c x.0 u x.1);
  kept = promised;
}
