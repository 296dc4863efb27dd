-- Drops, and that OAM frames are not counted. Assumes nothing.
use Prim.Native.Nat.{ℕ}
use mathlib.Core.Path.{◌≡◌, refl, ap}
use mathlib.Core.Bool.{false≢true}
use Rattle.frame_head.specs.Head.{ether_type_of}
use Rattle.state_view.specs.State.{State}
use Rattle.state_view.specs.Changed.{put}
use Rattle.state_view.specs.Changed as word
use Rattle.call_clear.proofs.Clears.{clears}
use Rattle.paper_said.specs.Calls as call
use Rattle.paper_said.specs.Calls.{Call, Arrival, dropped, Outcome, leaves}
use Rattle.paper_said.specs.Cases.{hold}
use Rattle.paper_said.specs.Said as said
use Rattle.paper_said.specs.Judged as judging
use Rattle.paper_said.specs.Handling as handling
use Rattle.paper_said.specs.Called as calling
use Rattle.paper_said.specs.Said.{Said}
use Rattle.paper_promised.specs.Refusals as table
use Rattle.paper_promised.specs.Refusals.{Remembered, handed}
use Rattle.paper_promised.proofs.Apart.{code_of, is_dropped}

pub drops : {s : State} {c : Call} {o : Outcome} → Said s c o → (m : ℕ) → o.answer ≡ dropped m → (Remembered s c → ⊥) → (o.state ≡ s)
    × (o.buffer ≡ handed c)
unfolding code_of
drops (said.by_rules_1_to_4 (judging.frame_2 a v)) N E H = absurd (false≢true (ap is_dropped E))
drops (said.by_rules_1_to_4 (judging.frame_1 a v n)) N E H = absurd (false≢true (ap is_dropped E))
drops (said.by_rules_1_to_4 (judging.frame_6_receive a v l g)) N E H = absurd (false≢true (ap is_dropped E))
drops (said.by_rules_1_to_4 (judging.frame_6_transmit a v l g)) N E H = absurd (false≢true (ap is_dropped E))
drops (said.by_rules_1_to_4 (judging.rule_1_received a h k e)) N E H = absurd (false≢true (ap is_dropped E))
drops (said.by_rules_1_to_4 (judging.rule_1_sent a h k e)) N E H = absurd (false≢true (ap is_dropped E))
drops (said.by_rules_1_to_4 (judging.rule_2_d1 a h e k)) N E H = (refl, refl)
drops (said.by_rules_1_to_4 (judging.rule_2_above a o k)) N E H = absurd (false≢true (ap is_dropped E))
drops (said.by_rules_1_to_4 (judging.rule_2_passive a o e k)) N E H = (refl, refl)
drops (said.by_rules_1_to_4 (judging.rule_3_ccm a o e k g)) N E H = absurd (H (table.lower_ccm a o e k g))
drops (said.by_rules_1_to_4 (judging.rule_3_other a o e k g)) N E H = (refl, refl)
drops (said.by_rules_1_to_4 (judging.rule_4_d3 a l k)) N E H = (refl, refl)
drops (said.by_rules_1_to_4 (judging.rule_4_d4 a l k)) N E H = (refl, refl)
drops (said.by_rules_1_to_4 (judging.rule_4_d5 a least l h k d)) N E H = (refl, refl)
drops (said.by_rules_1_to_4 (judging.rule_4_d6 a least l h k u d)) N E H = (refl, refl)
drops (said.by_rules_1_to_4 (judging.rule_4_d7_ccm a l q e z)) N E H = (refl, refl)
drops (said.by_rules_1_to_4 (judging.rule_4_d7_alarm a l q e z)) N E H = (refl, refl)
drops (said.by_rules_1_to_4 (judging.rule_4_d7_delay a l k)) N E H = (refl, refl)
drops (said.by_rules_5_to_8 (handling.rule_5_mismerge a k m)) N E H = absurd (false≢true (ap is_dropped E))
drops (said.by_rules_5_to_8 (handling.rule_5_mep a k m u)) N E H = absurd (false≢true (ap is_dropped E))
drops (said.by_rules_5_to_8 (handling.rule_5_peer a k p e)) N E H = absurd (false≢true (ap is_dropped E))
drops (said.by_rules_5_to_8 (handling.rule_5_period a k p e)) N E H = absurd (false≢true (ap is_dropped E))
drops (said.by_rules_5_to_8 (handling.rule_5_ais a l q e o)) N E H = absurd (false≢true (ap is_dropped E))
drops (said.by_rules_5_to_8 (handling.rule_5_lck a l q e o)) N E H = absurd (false≢true (ap is_dropped E))
drops (said.by_rules_5_to_8 (handling.rule_6 a reply l q r h)) N E H = absurd (false≢true (ap is_dropped E))
drops (said.by_rules_5_to_8 (handling.frame_3 a reply l q r h)) N E H = absurd (false≢true (ap is_dropped E))
drops (said.by_rules_5_to_8 (handling.rule_7_first a l k)) N E H = absurd (false≢true (ap is_dropped E))
drops (said.by_rules_5_to_8 (handling.rule_7_later a l k m)) N E H = absurd (false≢true (ap is_dropped E))
drops (said.by_rules_5_to_8 (handling.frame_5 a l k m)) N E H = absurd (false≢true (ap is_dropped E))
drops (said.by_rules_5_to_8 (handling.rule_8_two_way a g p h)) N E H = absurd (false≢true (ap is_dropped E))
drops (said.by_rules_5_to_8 (handling.rule_8_all_ways a g p x y z)) N E H = absurd (false≢true (ap is_dropped E))
drops (said.by_rules_5_to_8 (handling.rule_8_d8_two_way a g p h)) N E H = (refl, refl)
drops (said.by_rules_5_to_8 (handling.rule_8_d8_all_ways a g p h)) N E H = (refl, refl)
drops (said.by_call (calling.clear_2 v)) N E H = absurd (false≢true (ap is_dropped E))
drops (said.by_call (calling.clears v)) N E H = absurd (false≢true (ap is_dropped E))
drops (said.by_call (calling.tick_2 b v)) N E H = absurd (false≢true (ap is_dropped E))
drops (said.by_call (calling.tick_lowers b v h)) N E H = absurd (false≢true (ap is_dropped E))
drops (said.by_call (calling.tick_3 b v e h)) N E H = absurd (false≢true (ap is_dropped E))
drops (said.by_call (calling.tick_sends b rdi v e h f)) N E H = absurd (false≢true (ap is_dropped E))
drops (said.by_call (calling.lmm_2 b v)) N E H = absurd (false≢true (ap is_dropped E))
drops (said.by_call (calling.lmm_3 b v h)) N E H = absurd (false≢true (ap is_dropped E))
drops (said.by_call (calling.lmm_sends b v h)) N E H = absurd (false≢true (ap is_dropped E))
drops (said.by_call (calling.dmm_2 t b v)) N E H = absurd (false≢true (ap is_dropped E))
drops (said.by_call (calling.dmm_6 t b v g)) N E H = absurd (false≢true (ap is_dropped E))
drops (said.by_call (calling.dmm_3 t b v g h)) N E H = absurd (false≢true (ap is_dropped E))
drops (said.by_call (calling.dmm_sends t b v g h)) N E H = absurd (false≢true (ap is_dropped E))
drops (said.by_call (calling.setting_4 t z v h)) N E H = absurd (false≢true (ap is_dropped E))
drops (said.by_call (calling.setting_starts t f v h)) N E H = absurd (false≢true (ap is_dropped E))
drops (said.by_call (calling.conditions_2 v)) N E H = absurd (false≢true (ap is_dropped E))
drops (said.by_call (calling.conditions_show r v h)) N E H = absurd (false≢true (ap is_dropped E))

-- rule 3's CCM has its own sentence
pub remembered : {s : State} {c : Call} → Remembered s c → Said s c (leaves (dropped 2) (put word.unexpected_level (hold s) s) (handed c))
remembered (table.lower_ccm a o e k g) = said.by_rules_1_to_4 (judging.rule_3_ccm a o e k g)

-- ── OAM frames are not counted ──

pub uncounted : {s : State} {a : Arrival} {o : Outcome} → Said s (call.frame a) o → ether_type_of a.octets ≡ 0x8902
    → (o.state.sent ≡ s.sent) × (o.state.received ≡ s.received)
uncounted (said.by_rules_1_to_4 (judging.frame_2 a v)) E = (refl, refl)
uncounted (said.by_rules_1_to_4 (judging.frame_1 a v n)) E = (refl, refl)
uncounted (said.by_rules_1_to_4 (judging.frame_6_receive a v l g)) E = (refl, refl)
uncounted (said.by_rules_1_to_4 (judging.frame_6_transmit a v l g)) E = (refl, refl)
uncounted (said.by_rules_1_to_4 (judging.rule_1_received a h k e)) E = absurd (k E)
uncounted (said.by_rules_1_to_4 (judging.rule_1_sent a h k e)) E = absurd (k E)
uncounted (said.by_rules_1_to_4 (judging.rule_2_d1 a h e k)) E = (refl, refl)
uncounted (said.by_rules_1_to_4 (judging.rule_2_above a o k)) E = (refl, refl)
uncounted (said.by_rules_1_to_4 (judging.rule_2_passive a o e k)) E = (refl, refl)
uncounted (said.by_rules_1_to_4 (judging.rule_3_ccm a o e k g)) E = (refl, refl)
uncounted (said.by_rules_1_to_4 (judging.rule_3_other a o e k g)) E = (refl, refl)
uncounted (said.by_rules_1_to_4 (judging.rule_4_d3 a l k)) E = (refl, refl)
uncounted (said.by_rules_1_to_4 (judging.rule_4_d4 a l k)) E = (refl, refl)
uncounted (said.by_rules_1_to_4 (judging.rule_4_d5 a least l h k d)) E = (refl, refl)
uncounted (said.by_rules_1_to_4 (judging.rule_4_d6 a least l h k u d)) E = (refl, refl)
uncounted (said.by_rules_1_to_4 (judging.rule_4_d7_ccm a l q e z)) E = (refl, refl)
uncounted (said.by_rules_1_to_4 (judging.rule_4_d7_alarm a l q e z)) E = (refl, refl)
uncounted (said.by_rules_1_to_4 (judging.rule_4_d7_delay a l k)) E = (refl, refl)
uncounted (said.by_rules_5_to_8 (handling.rule_5_mismerge a k m)) E = (refl, refl)
uncounted (said.by_rules_5_to_8 (handling.rule_5_mep a k m u)) E = (refl, refl)
uncounted (said.by_rules_5_to_8 (handling.rule_5_peer a k p e)) E = (refl, refl)
uncounted (said.by_rules_5_to_8 (handling.rule_5_period a k p e)) E = (refl, refl)
uncounted (said.by_rules_5_to_8 (handling.rule_5_ais a l q e o)) E = (refl, refl)
uncounted (said.by_rules_5_to_8 (handling.rule_5_lck a l q e o)) E = (refl, refl)
uncounted (said.by_rules_5_to_8 (handling.rule_6 a reply l q r h)) E = (refl, refl)
uncounted (said.by_rules_5_to_8 (handling.frame_3 a reply l q r h)) E = (refl, refl)
uncounted (said.by_rules_5_to_8 (handling.rule_7_first a l k)) E = (refl, refl)
uncounted (said.by_rules_5_to_8 (handling.rule_7_later a l k m)) E = (refl, refl)
uncounted (said.by_rules_5_to_8 (handling.frame_5 a l k m)) E = (refl, refl)
uncounted (said.by_rules_5_to_8 (handling.rule_8_two_way a g p h)) E = (refl, refl)
uncounted (said.by_rules_5_to_8 (handling.rule_8_all_ways a g p x y z)) E = (refl, refl)
uncounted (said.by_rules_5_to_8 (handling.rule_8_d8_two_way a g p h)) E = (refl, refl)
uncounted (said.by_rules_5_to_8 (handling.rule_8_d8_all_ways a g p h)) E = (refl, refl)
uncounted {s = s} {a = a} {o = o} (said.by_call x4) E = elim x4 [ ]
