-- A frame is answered with a loss, or refused for want of intervals, just where it is a good loss reply. Assumes nothing.
use mathlib.Core.Path.{◌≡◌, refl, ap, ◌∙◌}
use mathlib.Core.Bool.{Bool, true, false, false≢true}
use lib.Dec.{eqb}
use Rattle.std.specs.Prelude.{Result, Ok, Err, Option, Some, None}
use Rattle.loss_reading.specs.Losses.{losses_of}
use Rattle.loss_reading.specs.declared.LossRefusal.{LossRefusal}
use Rattle.loss_reading.specs.declared.Losses.{Losses}
use Rattle.loss_reading.specs.declared.LossRefusal.TheVariants as answer
use Rattle.loss_reading.specs.Reading.{after_reading}
use Rattle.loss_reading.proofs.Refusals.{refuses_2}
use Rattle.state_view.specs.State.{State}
use Rattle.paper_said.specs.Calls as call
use Rattle.paper_said.specs.Calls.{Arrival, Answer, Outcome, FromWire}
use Rattle.paper_said.specs.Said as said
use Rattle.paper_said.specs.Judged as judging
use Rattle.paper_said.specs.Handling as handling
use Rattle.paper_said.specs.Made as made
use Rattle.paper_said.specs.Taken.{LossReply}
use Rattle.paper_said.specs.Said.{Said}
use Rattle.paper_promised.proofs.Promised.{promises}
use Rattle.paper_loss.proofs.Step.{told_of, reply-said}

-- ── a good loss reply, told by its answer ──

-- a loss or refusal 5
abbrev pub lossy : Answer → Bool
lossy (call.refused n) = eqb n 5
lossy (call.loss n f) = true
lossy (call.dropped n) = false
lossy call.passed = false
lossy call.taken = false
lossy (call.written n) = false
lossy (call.delay t) = false
lossy (call.delays t f n) = false
lossy call.done = false
lossy (call.standing r) = false

told-lossy : (x : Result (Option Losses) LossRefusal) → (x ≡ Err answer.NotWellFormed → ⊥) → lossy (told_of x) ≡ true
told-lossy (Err answer.NotWellFormed) n = absurd (n refl)
told-lossy (Err answer.Full) n = refl
told-lossy (Ok None) n = refl
told-lossy (Ok (Some l)) n = refl

pub reply-lossy : (s : State) (a : Arrival) (o : Outcome) → FromWire a → LossReply s a → Said s (call.frame a) o → lossy o.answer ≡ true
reply-lossy s a o u l p =
    let r = made.reading s a in
    let e = promises.agrees s (call.frame a) o _ u p (reply-said s a l) in
    ap (λ (x : Outcome). lossy x.answer) e
    ∙ told-lossy (after_reading s.session r).answer (λ q. (refuses_2 s.session r).0 q l.own.oam.heeded.well.session)

pub lossy-reply : {s : State} {a : Arrival} {o : Outcome} → Said s (call.frame a) o → lossy o.answer ≡ true → LossReply s a
lossy-reply (said.by_rules_1_to_4 (judging.frame_2 a v)) e = absurd (false≢true e)
lossy-reply (said.by_rules_1_to_4 (judging.frame_1 a v h)) e = absurd (false≢true e)
lossy-reply (said.by_rules_1_to_4 (judging.frame_6_receive a v h g)) e = absurd (false≢true e)
lossy-reply (said.by_rules_1_to_4 (judging.frame_6_transmit a v h g)) e = absurd (false≢true e)
lossy-reply (said.by_rules_1_to_4 (judging.rule_1_received a h k d)) e = absurd (false≢true e)
lossy-reply (said.by_rules_1_to_4 (judging.rule_1_sent a h k d)) e = absurd (false≢true e)
lossy-reply (said.by_rules_1_to_4 (judging.rule_2_d1 a h d k)) e = absurd (false≢true e)
lossy-reply (said.by_rules_1_to_4 (judging.rule_2_above a o k)) e = absurd (false≢true e)
lossy-reply (said.by_rules_1_to_4 (judging.rule_2_passive a o d k)) e = absurd (false≢true e)
lossy-reply (said.by_rules_1_to_4 (judging.rule_3_ccm a o d k g)) e = absurd (false≢true e)
lossy-reply (said.by_rules_1_to_4 (judging.rule_3_other a o d k g)) e = absurd (false≢true e)
lossy-reply (said.by_rules_1_to_4 (judging.rule_4_d3 a l h)) e = absurd (false≢true e)
lossy-reply (said.by_rules_1_to_4 (judging.rule_4_d4 a l d)) e = absurd (false≢true e)
lossy-reply (said.by_rules_1_to_4 (judging.rule_4_d5 a least l h o d)) e = absurd (false≢true e)
lossy-reply (said.by_rules_1_to_4 (judging.rule_4_d6 a least l h o d x)) e = absurd (false≢true e)
lossy-reply (said.by_rules_1_to_4 (judging.rule_4_d7_ccm a l q o d)) e = absurd (false≢true e)
lossy-reply (said.by_rules_1_to_4 (judging.rule_4_d7_alarm a l q o d)) e = absurd (false≢true e)
lossy-reply (said.by_rules_1_to_4 (judging.rule_4_d7_delay a l d)) e = absurd (false≢true e)
lossy-reply (said.by_rules_5_to_8 (handling.rule_5_mismerge a k m)) e = absurd (false≢true e)
lossy-reply (said.by_rules_5_to_8 (handling.rule_5_mep a k m u)) e = absurd (false≢true e)
lossy-reply (said.by_rules_5_to_8 (handling.rule_5_peer a k p d)) e = absurd (false≢true e)
lossy-reply (said.by_rules_5_to_8 (handling.rule_5_period a k p d)) e = absurd (false≢true e)
lossy-reply (said.by_rules_5_to_8 (handling.rule_5_ais a l q d o)) e = absurd (false≢true e)
lossy-reply (said.by_rules_5_to_8 (handling.rule_5_lck a l q d o)) e = absurd (false≢true e)
lossy-reply (said.by_rules_5_to_8 (handling.rule_6 a octets l q r h)) e = absurd (false≢true e)
lossy-reply (said.by_rules_5_to_8 (handling.frame_3 a octets l q r h)) e = absurd (false≢true e)
lossy-reply (said.by_rules_5_to_8 (handling.rule_7_first a l k)) e = l
lossy-reply (said.by_rules_5_to_8 (handling.rule_7_later a l k m)) e = l
lossy-reply (said.by_rules_5_to_8 (handling.frame_5 a l k m)) e = l
lossy-reply (said.by_rules_5_to_8 (handling.rule_8_two_way a g p h)) e = absurd (false≢true e)
lossy-reply (said.by_rules_5_to_8 (handling.rule_8_all_ways a g p x y z)) e = absurd (false≢true e)
lossy-reply (said.by_rules_5_to_8 (handling.rule_8_d8_two_way a g p h)) e = absurd (false≢true e)
lossy-reply (said.by_rules_5_to_8 (handling.rule_8_d8_all_ways a g p h)) e = absurd (false≢true e)
lossy-reply {s = s} {a = a} {o = o} (said.by_call x4) e = elim x4 [ ]
