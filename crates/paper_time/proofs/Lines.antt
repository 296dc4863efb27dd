-- What each sentence of the paper leaves of the timers and the counter: a clause for each. Assumes nothing.
use Prim.Native.Nat.{ℕ}
use mathlib.Core.Path.{refl, sym, ap, ◌∙◌}
use mathlib.Core.List.{List}
use native.Mathlib.Omega.{arith}
use Rattle.base_stamp.specs.declared.Stamp.{Stamp}
use Rattle.state_settings.specs.Settings.{Settings}
use Rattle.state_settings.specs.Valid.{Valid}
use Rattle.state_view.specs.State.{State}
use Rattle.state_view.specs.Changed as word
use Rattle.paper_said.specs.Calls as call
use Rattle.paper_said.specs.Calls.{Arrival, Outcome}
use Rattle.paper_said.specs.Cases.{hold}
use Rattle.paper_said.specs.Said as said
use Rattle.paper_said.specs.Judged as judging
use Rattle.paper_said.specs.Handling as handling
use Rattle.paper_said.specs.Called as calling
use Rattle.paper_said.specs.Said.{Said}
use Rattle.paper_time.specs.Timers.{mismerge, unexpected_level, unexpected_mep, ais, lck}
use Rattle.paper_time.specs.Timers as sets
use Rattle.paper_time.proofs.Asked.{peer_moves, sound_moves, good_moves, oam_moves, own_moves, ccm_moves, from_moves}
use Rattle.paper_time.proofs.Changes.{Holds, Change, idle, counts, session, condition, hears, good, period-line}

module _ {t : Settings} {s : State} (v : Valid t) (H : Holds t s) where
  pub frame-line : {a : Arrival} {o : Outcome} → Said s (call.frame a) o → Change t s (call.frame a) o.state
  frame-line (said.by_rules_1_to_4 (judging.frame_2 a w)) = idle
  frame-line (said.by_rules_1_to_4 (judging.frame_1 a w n)) = idle
  frame-line (said.by_rules_1_to_4 (judging.frame_6_receive a w l g)) = idle
  frame-line (said.by_rules_1_to_4 (judging.frame_6_transmit a w l g)) = idle
  frame-line (said.by_rules_1_to_4 (judging.rule_1_received a h k e)) = counts word.received _ (omega arith) refl
  frame-line (said.by_rules_1_to_4 (judging.rule_1_sent a h k e)) = counts word.sent _ (omega arith) refl
  frame-line (said.by_rules_1_to_4 (judging.rule_2_d1 a h e k)) = idle
  frame-line (said.by_rules_1_to_4 (judging.rule_2_above a o k)) = idle
  frame-line (said.by_rules_1_to_4 (judging.rule_2_passive a o e k)) = idle
  frame-line (said.by_rules_1_to_4 (judging.rule_3_ccm a o e k g)) =
      condition unexpected_level (hold s) _ refl
      (sets.lower_ccm a (oam_moves H.same (good v) o) e (rw (← H.same) k) (good_moves H.same g))
  frame-line (said.by_rules_1_to_4 (judging.rule_3_other a o e k g)) = idle
  frame-line (said.by_rules_1_to_4 (judging.rule_4_d3 a l k)) = idle
  frame-line (said.by_rules_1_to_4 (judging.rule_4_d4 a l k)) = idle
  frame-line (said.by_rules_1_to_4 (judging.rule_4_d5 a least l h k d)) = idle
  frame-line (said.by_rules_1_to_4 (judging.rule_4_d6 a least l h k u d)) = idle
  frame-line (said.by_rules_1_to_4 (judging.rule_4_d7_ccm a l q e z)) = idle
  frame-line (said.by_rules_1_to_4 (judging.rule_4_d7_alarm a l q e z)) = idle
  frame-line (said.by_rules_1_to_4 (judging.rule_4_d7_delay a l k)) = idle
  frame-line (said.by_rules_5_to_8 (handling.rule_5_mismerge a k m)) =
      condition mismerge (hold s) _ refl (sets.other_meg a (ccm_moves H.same (good v) k)
      (λ e. m (e ∙ sym (ap (λ (u : Settings). u.meg) H.same))))
  frame-line (said.by_rules_5_to_8 (handling.rule_5_mep a k m u)) =
      condition unexpected_mep (hold s) _ refl
      (sets.no_peer a (ccm_moves H.same (good v) k) (m ∙ ap (λ (u : Settings). u.meg) H.same)
      (λ i p. u i (peer_moves (sym H.same) p)))
  frame-line (said.by_rules_5_to_8 (handling.rule_5_peer a k p e)) =
      hears k (hold s) _ _ (sets.from_peer a k (from_moves H.same (good v) p))
  frame-line (said.by_rules_5_to_8 (handling.rule_5_period a k p e)) = period-line v H a k p e
  frame-line (said.by_rules_5_to_8 (handling.rule_5_ais a l q e o)) =
      condition ais _ _ refl (sets.alarm a (own_moves H.same (good v) l) (sound_moves H.same q) e o)
  frame-line (said.by_rules_5_to_8 (handling.rule_5_lck a l q e o)) =
      condition lck _ _ refl (sets.locked a (own_moves H.same (good v) l) (sound_moves H.same q) e o)
  frame-line (said.by_rules_5_to_8 (handling.rule_6 a reply l q r h)) = idle
  frame-line (said.by_rules_5_to_8 (handling.frame_3 a reply l q r h)) = idle
  frame-line (said.by_rules_5_to_8 (handling.rule_7_first a l k)) = session _
  frame-line (said.by_rules_5_to_8 (handling.rule_7_later a l k m)) = session _
  frame-line (said.by_rules_5_to_8 (handling.frame_5 a l k m)) = idle
  frame-line (said.by_rules_5_to_8 (handling.rule_8_two_way a g p h)) = idle
  frame-line (said.by_rules_5_to_8 (handling.rule_8_all_ways a g p x y z)) = idle
  frame-line (said.by_rules_5_to_8 (handling.rule_8_d8_two_way a g p h)) = idle
  frame-line (said.by_rules_5_to_8 (handling.rule_8_d8_all_ways a g p h)) = idle
  frame-line {a = a} {o = o} (said.by_call x3) = elim x3 [ ]

  pub clear-line : {o : Outcome} → Said s call.clear o → Change t s call.clear o.state
  clear-line (said.by_call (calling.clear_2 n)) = idle
  clear-line (said.by_call (calling.clears w)) = session _

  pub lmm-line : {b : List ℕ} {o : Outcome} → Said s (call.send_LMM b) o → Change t s (call.send_LMM b) o.state
  lmm-line (said.by_call (calling.lmm_2 b n)) = idle
  lmm-line (said.by_call (calling.lmm_3 b w h)) = idle
  lmm-line (said.by_call (calling.lmm_sends b w h)) = idle

  pub dmm-line : {d : Stamp} {b : List ℕ} {o : Outcome} → Said s (call.send_DMM d b) o → Change t s (call.send_DMM d b) o.state
  dmm-line (said.by_call (calling.dmm_2 d b n)) = idle
  dmm-line (said.by_call (calling.dmm_6 d b w g)) = idle
  dmm-line (said.by_call (calling.dmm_3 d b w g h)) = idle
  dmm-line (said.by_call (calling.dmm_sends d b w g h)) = idle

  pub conditions-line : {o : Outcome} → Said s call.conditions o → Change t s call.conditions o.state
  conditions-line (said.by_call (calling.conditions_2 n)) = idle
  conditions-line (said.by_call (calling.conditions_show r w h)) = idle
