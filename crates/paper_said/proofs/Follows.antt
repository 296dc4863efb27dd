-- One clause for each sentence of the paper: our box leaves what it says. Assumes nothing.
use mathlib.Core.Path.{◌≡◌}
use Rattle.base_stamp.specs.Stamps.{good}
use Rattle.receive_answer.specs.Told.{drop_of}
use Rattle.receive_carry_out.specs.CarryOut.{delay_answer}
use Rattle.frame_head.specs.Head.{flags_of}
use Rattle.state_view.specs.State.{State}
use Rattle.paper_said.specs.Calls.{Call, Outcome, OnWire}
use Rattle.paper_said.specs.Cases.{pdu}
use Rattle.paper_said.specs.Said as said
use Rattle.paper_said.specs.Judged as judging
use Rattle.paper_said.specs.Handling as handling
use Rattle.paper_said.specs.Called as calling
use Rattle.paper_said.specs.Said.{Said}
use Rattle.paper_said.specs.Ours.{ours, OursFollows}
use Rattle.paper_said.proofs.Stamps as Stamps
use Rattle.paper_said.proofs.Delays as Delays
use Rattle.paper_said.proofs.Codes as Codes
use Rattle.paper_said.proofs.MeetsRefused as MeetsRefused
use Rattle.paper_said.proofs.MeetsJudged as MeetsJudged
use Rattle.paper_said.proofs.MeetsSignals as MeetsSignals
use Rattle.paper_said.proofs.MeetsReplies as MeetsReplies
use Rattle.paper_said.proofs.MeetsMeasures as MeetsMeasures
use Rattle.paper_said.proofs.MeetsTicks as MeetsTicks
use Rattle.paper_said.proofs.MeetsCalls as MeetsCalls
use Rattle.paper_said.proofs.MeetsConditions as MeetsConditions

meets : {s : State} {c : Call} {o : Outcome} → OnWire c → Said s c o → ours s c ≡ o
unfolding delay_answer drop_of
meets {s} w (said.by_rules_1_to_4 (judging.frame_2 a n)) = MeetsRefused.frame_2 s a n
meets {s} w (said.by_rules_1_to_4 (judging.frame_1 a v n)) = MeetsRefused.frame_1 s a v n
meets {s} w (said.by_rules_1_to_4 (judging.frame_6_receive a v l n)) =
    MeetsRefused.frame_6 s a v l (MeetsRefused.first-bad s a (good a.receive) (good a.transmit) (Stamps.good-no a.receive n))
meets {s} w (said.by_rules_1_to_4 (judging.frame_6_transmit a v l n)) =
    MeetsRefused.frame_6 s a v l (MeetsRefused.second-bad s a (good a.receive) (good a.transmit) (Stamps.good-no a.transmit n))
meets {s} w (said.by_rules_1_to_4 (judging.rule_1_received a h n e)) = MeetsJudged.received s a h n e
meets {s} w (said.by_rules_1_to_4 (judging.rule_1_sent a h n e)) = MeetsJudged.sent s a h n e
meets {s} w (said.by_rules_1_to_4 (judging.rule_2_d1 a h e k)) = MeetsJudged.short s a h e k
meets {s} w (said.by_rules_1_to_4 (judging.rule_2_above a o k)) = MeetsJudged.above s a o k
meets {s} w (said.by_rules_1_to_4 (judging.rule_2_passive a o e k)) = MeetsJudged.inside s a o e k
meets {s} w (said.by_rules_1_to_4 (judging.rule_3_ccm a o e k g)) = MeetsJudged.lower_ccm s a o e k g
meets {s} w (said.by_rules_1_to_4 (judging.rule_3_other a o e k n)) = MeetsJudged.lower-other s a w.octets o e k n
meets {s} w (said.by_rules_1_to_4 (judging.rule_4_d3 a l n)) = MeetsJudged.drop_3 s a l n
meets {s} w (said.by_rules_1_to_4 (judging.rule_4_d4 a l d)) = MeetsJudged.drop_4 s a l d
meets {s} w (said.by_rules_1_to_4 (judging.rule_4_d5 a least l h k d)) = MeetsJudged.drop_5 s a w.octets least l h k d
meets {s} w (said.by_rules_1_to_4 (judging.rule_4_d6 a least l h k n d)) = MeetsJudged.drop_6 s a least l h k n d
meets {s} w (said.by_rules_1_to_4 (judging.rule_4_d7_ccm a l q op z)) = MeetsJudged.drop_7 s a l q (Codes.ccm-bad (flags_of (pdu a)) op z)
meets {s} w (said.by_rules_1_to_4 (judging.rule_4_d7_alarm a l q op n)) =
    MeetsJudged.drop_7 s a l q (Codes.alarm-bad (flags_of (pdu a)) op n)
meets {s} w (said.by_rules_1_to_4 (judging.rule_4_d7_delay a l b)) = MeetsMeasures.delay-left s a l _ (Delays.delay_d7 a b)
meets {s} w (said.by_rules_5_to_8 (handling.rule_5_mismerge a c n)) = MeetsSignals.mismerge s a c n
meets {s} w (said.by_rules_5_to_8 (handling.rule_5_mep a c m n)) = MeetsSignals.unexpected_mep s a c m n
meets {s} w (said.by_rules_5_to_8 (handling.rule_5_peer a k p e)) = MeetsSignals.peer s a k p e
meets {s} w (said.by_rules_5_to_8 (handling.rule_5_period a k p n)) = MeetsSignals.unexpected_period s a k p n
meets {s} w (said.by_rules_5_to_8 (handling.rule_5_ais a l q op o)) = MeetsSignals.alarm s a l q op o
meets {s} w (said.by_rules_5_to_8 (handling.rule_5_lck a l q op o)) = MeetsSignals.lock s a l q op o
meets {s} w (said.by_rules_5_to_8 (handling.rule_6 a reply l q r h)) = MeetsReplies.replies s a l q reply r h
meets {s} w (said.by_rules_5_to_8 (handling.frame_3 a reply l q r h)) = MeetsReplies.frame_3 s a l q reply r h
meets {s} w (said.by_rules_5_to_8 (handling.rule_7_first a l k)) = MeetsMeasures.first-reading s a l k
meets {s} w (said.by_rules_5_to_8 (handling.rule_7_later a l k n)) = MeetsMeasures.later-reading s a l k n
meets {s} w (said.by_rules_5_to_8 (handling.frame_5 a l k n)) = MeetsMeasures.full s a l k n
meets {s} w (said.by_rules_5_to_8 (handling.rule_8_two_way a g p h)) =
    MeetsMeasures.delay-left s a g.reply _ (Delays.delay-two a g.good p h)
meets {s} w (said.by_rules_5_to_8 (handling.rule_8_all_ways a g p x y z)) =
    MeetsMeasures.delay-left s a g.reply _ (Delays.delay-all a g.good p x y z)
meets {s} w (said.by_rules_5_to_8 (handling.rule_8_d8_two_way a g p h)) =
    MeetsMeasures.delay-left s a g.reply _ (Delays.delay-two_d8 a g.good p h)
meets {s} w (said.by_rules_5_to_8 (handling.rule_8_d8_all_ways a g p h)) =
    MeetsMeasures.delay-left s a g.reply _ (Delays.delay-all_d8 a g.good p h)
meets {s} w (said.by_call (calling.clear_2 n)) = MeetsCalls.clear_2 s n
meets {s} w (said.by_call (calling.clears v)) = MeetsCalls.clears s v
meets {s} w (said.by_call (calling.tick_2 b n)) = MeetsTicks.tick_2 s b n
meets {s} w (said.by_call (calling.tick_lowers b v h)) = MeetsTicks.tick_lowers s b v h
meets {s} w (said.by_call (calling.tick_3 b v e h)) = MeetsTicks.tick_3 s b v e h
meets {s} w (said.by_call (calling.tick_sends b rdi v e h f)) = MeetsTicks.tick_sends s b rdi v e h f
meets {s} w (said.by_call (calling.lmm_2 b n)) = MeetsCalls.lmm_2 s b n
meets {s} w (said.by_call (calling.lmm_3 b v h)) = MeetsCalls.lmm_3 s b v h
meets {s} w (said.by_call (calling.lmm_sends b v h)) = MeetsCalls.lmm_sends s b v h
meets {s} w (said.by_call (calling.dmm_2 t b n)) = MeetsCalls.dmm_2 s b t n
meets {s} w (said.by_call (calling.dmm_6 t b v n)) = MeetsCalls.dmm_6 s b t v n
meets {s} w (said.by_call (calling.dmm_3 t b v g h)) = MeetsCalls.dmm_3 s b t v g h
meets {s} w (said.by_call (calling.dmm_sends t b v g h)) = MeetsCalls.dmm_sends s b t v g h
meets {s} w (said.by_call (calling.setting_4 t z n h)) = MeetsCalls.setting_4 s t z n h
meets {s} w (said.by_call (calling.setting_starts t f v h)) = MeetsCalls.setting_starts s t f v h
meets {s} w (said.by_call (calling.conditions_2 n)) = MeetsConditions.conditions_2 s n
meets {s} w (said.by_call (calling.conditions_show r v h)) = MeetsConditions.conditions_show s r v h

pub ours-follows : OursFollows
ours-follows = record { box = record { follows = λ s c o w p. meets w p } }
