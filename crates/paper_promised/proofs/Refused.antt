-- Refusals: each by its line of the table, and what a refused call leaves. Assumes nothing.
use Prim.Native.Nat.{ℕ}
use mathlib.Core.Path.{◌≡◌, refl, sym, ap, ◌∙◌}
use mathlib.Core.Bool.{true, false, false≢true}
use mathlib.Core.Logic.{⊎_elim}
use Rattle.base_laws.proofs.Tests.{known as if-known}
use Rattle.base_stamp.specs.Stamps.{good}
use Rattle.state_view.specs.State.{State}
use Rattle.call_setting.specs.Start.{zero_state}
use Rattle.paper_said.proofs.Started.{zero_own}
use Rattle.call_clear.proofs.Clears.{clears}
use Rattle.paper_said.specs.Calls.{Call, refused, Outcome}
use Rattle.paper_said.specs.Said as said
use Rattle.paper_said.specs.Judged as judging
use Rattle.paper_said.specs.Handling as handling
use Rattle.paper_said.specs.Called as calling
use Rattle.paper_said.specs.Said.{Said}
use Rattle.paper_promised.specs.Refusals as table
use Rattle.paper_promised.specs.Refusals.{Refusal, handed}
use Rattle.paper_said.proofs.Stamps.{good-only, good-yes}
use Rattle.paper_promised.proofs.Apart.{code_of, number_in, is_refused}

-- a refusal has its line, leaves the state, and leaves the buffer as it was handed over
refusal : {s : State} {c : Call} {o : Outcome} → Said s c o → (m : ℕ) → o.answer ≡ refused m
    → Refusal s c m × (o.state ≡ s) × (o.buffer ≡ handed c)
unfolding code_of
refusal (said.by_rules_1_to_4 (judging.frame_2 a v)) N E = rw (sym (ap number_in E)) (table.frame_2 a v, refl, refl)
refusal (said.by_rules_1_to_4 (judging.frame_1 a v n)) N E = rw (sym (ap number_in E)) (table.frame_1 a v n, refl, refl)
refusal (said.by_rules_1_to_4 (judging.frame_6_receive a v l g)) N E =
    rw (sym (ap number_in E)) (table.frame_6 a v l (λ x y. g x), refl, refl)
refusal (said.by_rules_1_to_4 (judging.frame_6_transmit a v l g)) N E =
    rw (sym (ap number_in E)) (table.frame_6 a v l (λ x y. g y), refl, refl)
refusal (said.by_rules_1_to_4 (judging.rule_1_received a h k e)) N E = absurd (false≢true (ap is_refused E))
refusal (said.by_rules_1_to_4 (judging.rule_1_sent a h k e)) N E = absurd (false≢true (ap is_refused E))
refusal (said.by_rules_1_to_4 (judging.rule_2_d1 a h e k)) N E = absurd (false≢true (ap is_refused E))
refusal (said.by_rules_1_to_4 (judging.rule_2_above a o k)) N E = absurd (false≢true (ap is_refused E))
refusal (said.by_rules_1_to_4 (judging.rule_2_passive a o e k)) N E = absurd (false≢true (ap is_refused E))
refusal (said.by_rules_1_to_4 (judging.rule_3_ccm a o e k g)) N E = absurd (false≢true (ap is_refused E))
refusal (said.by_rules_1_to_4 (judging.rule_3_other a o e k g)) N E = absurd (false≢true (ap is_refused E))
refusal (said.by_rules_1_to_4 (judging.rule_4_d3 a l k)) N E = absurd (false≢true (ap is_refused E))
refusal (said.by_rules_1_to_4 (judging.rule_4_d4 a l k)) N E = absurd (false≢true (ap is_refused E))
refusal (said.by_rules_1_to_4 (judging.rule_4_d5 a least l h k d)) N E = absurd (false≢true (ap is_refused E))
refusal (said.by_rules_1_to_4 (judging.rule_4_d6 a least l h k u d)) N E = absurd (false≢true (ap is_refused E))
refusal (said.by_rules_1_to_4 (judging.rule_4_d7_ccm a l q e z)) N E = absurd (false≢true (ap is_refused E))
refusal (said.by_rules_1_to_4 (judging.rule_4_d7_alarm a l q e z)) N E = absurd (false≢true (ap is_refused E))
refusal (said.by_rules_1_to_4 (judging.rule_4_d7_delay a l k)) N E = absurd (false≢true (ap is_refused E))
refusal (said.by_rules_5_to_8 (handling.rule_5_mismerge a k m)) N E = absurd (false≢true (ap is_refused E))
refusal (said.by_rules_5_to_8 (handling.rule_5_mep a k m u)) N E = absurd (false≢true (ap is_refused E))
refusal (said.by_rules_5_to_8 (handling.rule_5_peer a k p e)) N E = absurd (false≢true (ap is_refused E))
refusal (said.by_rules_5_to_8 (handling.rule_5_period a k p e)) N E = absurd (false≢true (ap is_refused E))
refusal (said.by_rules_5_to_8 (handling.rule_5_ais a l q e o)) N E = absurd (false≢true (ap is_refused E))
refusal (said.by_rules_5_to_8 (handling.rule_5_lck a l q e o)) N E = absurd (false≢true (ap is_refused E))
refusal (said.by_rules_5_to_8 (handling.rule_6 a reply l q r h)) N E = absurd (false≢true (ap is_refused E))
refusal (said.by_rules_5_to_8 (handling.frame_3 a reply l q r h)) N E = rw (sym (ap number_in E)) (table.frame_3 a reply l q r h, refl, refl)
refusal (said.by_rules_5_to_8 (handling.rule_7_first a l k)) N E = absurd (false≢true (ap is_refused E))
refusal (said.by_rules_5_to_8 (handling.rule_7_later a l k m)) N E = absurd (false≢true (ap is_refused E))
refusal (said.by_rules_5_to_8 (handling.frame_5 a l k m)) N E = rw (sym (ap number_in E)) (table.frame_5 a l k m, refl, refl)
refusal (said.by_rules_5_to_8 (handling.rule_8_two_way a g p h)) N E = absurd (false≢true (ap is_refused E))
refusal (said.by_rules_5_to_8 (handling.rule_8_all_ways a g p x y z)) N E = absurd (false≢true (ap is_refused E))
refusal (said.by_rules_5_to_8 (handling.rule_8_d8_two_way a g p h)) N E = absurd (false≢true (ap is_refused E))
refusal (said.by_rules_5_to_8 (handling.rule_8_d8_all_ways a g p h)) N E = absurd (false≢true (ap is_refused E))
refusal (said.by_call (calling.clear_2 v)) N E = rw (sym (ap number_in E)) (table.clear_2 v, refl, refl)
refusal (said.by_call (calling.clears v)) N E = absurd (false≢true (ap is_refused E))
refusal (said.by_call (calling.tick_2 b v)) N E = rw (sym (ap number_in E)) (table.tick_2 b v, refl, refl)
refusal (said.by_call (calling.tick_lowers b v h)) N E = absurd (false≢true (ap is_refused E))
refusal (said.by_call (calling.tick_3 b v e h)) N E = rw (sym (ap number_in E)) (table.tick_3 b v e h, refl, refl)
refusal (said.by_call (calling.tick_sends b rdi v e h f)) N E = absurd (false≢true (ap is_refused E))
refusal (said.by_call (calling.lmm_2 b v)) N E = rw (sym (ap number_in E)) (table.lmm_2 b v, refl, refl)
refusal (said.by_call (calling.lmm_3 b v h)) N E = rw (sym (ap number_in E)) (table.lmm_3 b v h, refl, refl)
refusal (said.by_call (calling.lmm_sends b v h)) N E = absurd (false≢true (ap is_refused E))
refusal (said.by_call (calling.dmm_2 t b v)) N E = rw (sym (ap number_in E)) (table.dmm_2 t b v, refl, refl)
refusal (said.by_call (calling.dmm_6 t b v g)) N E = rw (sym (ap number_in E)) (table.dmm_6 t b v g, refl, refl)
refusal (said.by_call (calling.dmm_3 t b v g h)) N E = rw (sym (ap number_in E)) (table.dmm_3 t b v g h, refl, refl)
refusal (said.by_call (calling.dmm_sends t b v g h)) N E = absurd (false≢true (ap is_refused E))
refusal (said.by_call (calling.setting_4 t z v h)) N E = rw (sym (ap number_in E)) (table.setting_4 t v, refl, refl)
refusal (said.by_call (calling.setting_starts t f v h)) N E = absurd (false≢true (ap is_refused E))
refusal (said.by_call (calling.conditions_2 v)) N E = rw (sym (ap number_in E)) (table.conditions_2 v, refl, refl)
refusal (said.by_call (calling.conditions_show r v h)) N E = absurd (false≢true (ap is_refused E))

pub line : {s : State} {c : Call} {o : Outcome} → Said s c o → (m : ℕ) → o.answer ≡ refused m → Refusal s c m
line q m e = (refusal q m e).0

pub left : {s : State} {c : Call} {o : Outcome} → Said s c o → (m : ℕ) → o.answer ≡ refused m → (o.state ≡ s) × (o.buffer ≡ handed c)
left q m e = let (_, kept, buffer) = refusal q m e in (kept, buffer)

-- and back: each line of the table is a sentence
pub sentence : {s : State} {c : Call} {n : ℕ} → Refusal s c n → (o : Outcome) × (Said s c o × (o.answer ≡ refused n))
sentence (table.frame_2 a v) = (_, (said.by_rules_1_to_4 (judging.frame_2 a v), refl))
sentence (table.frame_1 a v n) = (_, (said.by_rules_1_to_4 (judging.frame_1 a v n), refl))
sentence (table.frame_6 a v l g) =
    ⊎_elim
    (λ (t : good a.receive ≡ true). (_, (said.by_rules_1_to_4 (judging.frame_6_transmit a v l (g (good-only a.receive t))), refl)))
    (λ (t : good a.receive ≡ false).
    (_, (said.by_rules_1_to_4 (judging.frame_6_receive a v l (λ x. false≢true (sym t ∙ good-yes a.receive x))), refl)))
    (if-known (good a.receive))
sentence (table.frame_3 a reply l q r h) = (_, (said.by_rules_5_to_8 (handling.frame_3 a reply l q r h), refl))
sentence (table.frame_5 a l k m) = (_, (said.by_rules_5_to_8 (handling.frame_5 a l k m), refl))
sentence (table.tick_2 b v) = (_, (said.by_call (calling.tick_2 b v), refl))
sentence (table.tick_3 b v e h) = (_, (said.by_call (calling.tick_3 b v e h), refl))
sentence (table.clear_2 v) = (_, (said.by_call (calling.clear_2 v), refl))
sentence (table.lmm_2 b v) = (_, (said.by_call (calling.lmm_2 b v), refl))
sentence (table.lmm_3 b v h) = (_, (said.by_call (calling.lmm_3 b v h), refl))
sentence (table.dmm_2 t b v) = (_, (said.by_call (calling.dmm_2 t b v), refl))
sentence (table.dmm_6 t b v g) = (_, (said.by_call (calling.dmm_6 t b v g), refl))
sentence (table.dmm_3 t b v g h) = (_, (said.by_call (calling.dmm_3 t b v g h), refl))
sentence (table.setting_4 t v) = (_, (said.by_call (calling.setting_4 t zero_state v zero_own), refl))
sentence (table.conditions_2 v) = (_, (said.by_call (calling.conditions_2 v), refl))
