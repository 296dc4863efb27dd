-- A call that is neither a good loss reply nor counted leaves the settings, the counts and the session. Assumes nothing.
use Prim.Native.Nat.{ℕ}
use mathlib.Core.Path.{◌≡◌, refl}
use mathlib.Core.List.{List}
use Rattle.state_view.specs.State.{State}
use Rattle.paper_said.specs.Calls as call
use Rattle.paper_said.specs.Calls.{Arrival, Outcome}
use Rattle.paper_said.specs.Said as said
use Rattle.paper_said.specs.Judged as judging
use Rattle.paper_said.specs.Handling as handling
use Rattle.paper_said.specs.Called as calling
use Rattle.paper_said.specs.Said.{Said}
use Rattle.paper_loss.specs.Runs.{Neither}

-- ── what is no reply and not counted leaves the settings, the counts and the session ──

abbrev Same : State → State → Type 0
Same y z = (z.settings ≡ y.settings) × (z.received ≡ y.received) × (z.sent ≡ y.sent) × (z.session ≡ y.session)

pub quiet : {y : State} {a : Arrival} {o : Outcome} → Neither y a → Said y (call.frame a) o → Same y o.state
quiet n (said.by_rules_1_to_4 (judging.frame_2 a v)) = (refl, refl, refl, refl)
quiet n (said.by_rules_1_to_4 (judging.frame_1 a v h)) = (refl, refl, refl, refl)
quiet n (said.by_rules_1_to_4 (judging.frame_6_receive a v h g)) = (refl, refl, refl, refl)
quiet n (said.by_rules_1_to_4 (judging.frame_6_transmit a v h g)) = (refl, refl, refl, refl)
quiet n (said.by_rules_1_to_4 (judging.rule_1_received a h k e)) = absurd (n.received (record { heeded = h; service = k; from = e }))
quiet n (said.by_rules_1_to_4 (judging.rule_1_sent a h k e)) = absurd (n.sent (record { heeded = h; service = k; from = e }))
quiet n (said.by_rules_1_to_4 (judging.rule_2_d1 a h e k)) = (refl, refl, refl, refl)
quiet n (said.by_rules_1_to_4 (judging.rule_2_above a o k)) = (refl, refl, refl, refl)
quiet n (said.by_rules_1_to_4 (judging.rule_2_passive a o e k)) = (refl, refl, refl, refl)
quiet n (said.by_rules_1_to_4 (judging.rule_3_ccm a o e k g)) = (refl, refl, refl, refl)
quiet n (said.by_rules_1_to_4 (judging.rule_3_other a o e k g)) = (refl, refl, refl, refl)
quiet n (said.by_rules_1_to_4 (judging.rule_4_d3 a l h)) = (refl, refl, refl, refl)
quiet n (said.by_rules_1_to_4 (judging.rule_4_d4 a l d)) = (refl, refl, refl, refl)
quiet n (said.by_rules_1_to_4 (judging.rule_4_d5 a least l h o d)) = (refl, refl, refl, refl)
quiet n (said.by_rules_1_to_4 (judging.rule_4_d6 a least l h o d e)) = (refl, refl, refl, refl)
quiet n (said.by_rules_1_to_4 (judging.rule_4_d7_ccm a l q o e)) = (refl, refl, refl, refl)
quiet n (said.by_rules_1_to_4 (judging.rule_4_d7_alarm a l q o e)) = (refl, refl, refl, refl)
quiet n (said.by_rules_1_to_4 (judging.rule_4_d7_delay a l d)) = (refl, refl, refl, refl)
quiet n (said.by_rules_5_to_8 (handling.rule_5_mismerge a k m)) = (refl, refl, refl, refl)
quiet n (said.by_rules_5_to_8 (handling.rule_5_mep a k m u)) = (refl, refl, refl, refl)
quiet n (said.by_rules_5_to_8 (handling.rule_5_peer a k p e)) = (refl, refl, refl, refl)
quiet n (said.by_rules_5_to_8 (handling.rule_5_period a k p e)) = (refl, refl, refl, refl)
quiet n (said.by_rules_5_to_8 (handling.rule_5_ais a l q e o)) = (refl, refl, refl, refl)
quiet n (said.by_rules_5_to_8 (handling.rule_5_lck a l q e o)) = (refl, refl, refl, refl)
quiet n (said.by_rules_5_to_8 (handling.rule_6 a reply l q r h)) = (refl, refl, refl, refl)
quiet n (said.by_rules_5_to_8 (handling.frame_3 a reply l q r h)) = (refl, refl, refl, refl)
quiet n (said.by_rules_5_to_8 (handling.rule_7_first a l k)) = absurd (n.reply l)
quiet n (said.by_rules_5_to_8 (handling.rule_7_later a l k m)) = absurd (n.reply l)
quiet n (said.by_rules_5_to_8 (handling.frame_5 a l k m)) = absurd (n.reply l)
quiet n (said.by_rules_5_to_8 (handling.rule_8_two_way a g p h)) = (refl, refl, refl, refl)
quiet n (said.by_rules_5_to_8 (handling.rule_8_all_ways a g p x y z)) = (refl, refl, refl, refl)
quiet n (said.by_rules_5_to_8 (handling.rule_8_d8_two_way a g p h)) = (refl, refl, refl, refl)
quiet n (said.by_rules_5_to_8 (handling.rule_8_d8_all_ways a g p h)) = (refl, refl, refl, refl)
quiet {y = y} {a = a} {o = o} n (said.by_call x3) = elim x3 [ ]

pub quiet-tick : {y : State} {b : List ℕ} {o : Outcome} → Said y (call.tick b) o → Same y o.state
quiet-tick (said.by_call (calling.tick_2 b v)) = (refl, refl, refl, refl)
quiet-tick (said.by_call (calling.tick_lowers b v h)) = (refl, refl, refl, refl)
quiet-tick (said.by_call (calling.tick_3 b v e h)) = (refl, refl, refl, refl)
quiet-tick (said.by_call (calling.tick_sends b r v e h f)) = (refl, refl, refl, refl)

pub quiet-lmm : {y : State} {b : List ℕ} {o : Outcome} → Said y (call.send_LMM b) o → Same y o.state
quiet-lmm (said.by_call (calling.lmm_2 b v)) = (refl, refl, refl, refl)
quiet-lmm (said.by_call (calling.lmm_3 b v h)) = (refl, refl, refl, refl)
quiet-lmm (said.by_call (calling.lmm_sends b v h)) = (refl, refl, refl, refl)

pub quiet-dmm : {y : State} {t : _} {b : List ℕ} {o : Outcome} → Said y (call.send_DMM t b) o → Same y o.state
quiet-dmm (said.by_call (calling.dmm_2 t b v)) = (refl, refl, refl, refl)
quiet-dmm (said.by_call (calling.dmm_6 t b v g)) = (refl, refl, refl, refl)
quiet-dmm (said.by_call (calling.dmm_3 t b v g h)) = (refl, refl, refl, refl)
quiet-dmm (said.by_call (calling.dmm_sends t b v g h)) = (refl, refl, refl, refl)

pub quiet-conditions : {y : State} {o : Outcome} → Said y call.conditions o → Same y o.state
quiet-conditions (said.by_call (calling.conditions_2 v)) = (refl, refl, refl, refl)
quiet-conditions (said.by_call (calling.conditions_show r v h)) = (refl, refl, refl, refl)

-- a clear leaves the settings and the counts
abbrev Calm : State → State → Type 0
Calm y z = (z.settings ≡ y.settings) × (z.received ≡ y.received) × (z.sent ≡ y.sent)

pub calm_clear : {y : State} {o : Outcome} → Said y call.clear o → Calm y o.state
calm_clear (said.by_call (calling.clear_2 v)) = (refl, refl, refl)
calm_clear (said.by_call (calling.clears v)) = (refl, refl, refl)
