-- A well-formed state stays so, whatever the call. Assumes nothing.
use Prim.Native.Nat.{ℕ, ◌≤◌, ◌<◌, ◌/◌}
use mathlib.Core.Path.{◌≡◌, ap}
use mathlib.Core.List.{List, [], ◌∷◌}
use mathlib.Core.Logic.{⊎_elim}
use native.Mathlib.Omega.{arith}
use Rattle.base_octets.specs.Octets.{Octets}
use Rattle.base_period.specs.Periods.{hold_of}
use Rattle.state_settings.specs.Settings.{Settings}
use Rattle.frame_head.specs.Head.{pdu_of, flags_of}
use Rattle.state_view.specs.State.{State}
use Rattle.state_view.specs.Changed as word
use Rattle.state_view.specs.WellFormed.{WellFormed, alarm_most}
use Rattle.state_view.proofs.Rules.{session-put}
use Rattle.paper_said.proofs.Started.{fresh_is}
use Rattle.call_setting.proofs.Starts.{starts}
use Rattle.call_tick.proofs.Ticks.{ticks}
use Rattle.call_send_lmm.proofs.Lmm.{sends-lmm}
use Rattle.call_send_dmm.proofs.Dmm.{sends-dmm}
use Rattle.call_clear.proofs.Clears.{clears}
use Rattle.paper_said.specs.Calls as call
use Rattle.paper_said.specs.Calls.{Call, Arrival, Outcome, OnWire}
use Rattle.paper_said.specs.Cases.{hold, OneOf}
use Rattle.paper_said.specs.Drops.{code}
use Rattle.paper_said.specs.Said as said
use Rattle.paper_said.specs.Judged as judging
use Rattle.paper_said.specs.Handling as handling
use Rattle.paper_said.specs.Called as calling
use Rattle.paper_said.specs.Made as made
use Rattle.paper_said.specs.Said.{Said}
use Rattle.paper_said.proofs.Rows.{first, none}
use Rattle.paper_said.proofs.Messages.{behind}
use Rattle.paper_promised.proofs.Kept.{put-well, heard-well, first-well, later-well}
use Rattle.paper_said.proofs.Follows.{ours-follows}

alarm-hold : (code : ℕ) → OneOf code (4 ∷ 6 ∷ []) → hold_of code ≤ alarm_most
unfolding hold_of
alarm-hold code o =
    ⊎_elim
    (λ (e : code ≡ 4). rw e (omega arith))
    (λ (p : OneOf code (6 ∷ [])). ⊎_elim (λ (e : code ≡ 6). rw e (omega arith)) (λ (q : OneOf code []). absurd (none q)) (first p))
    (first o)

pub same : (n : ℕ) → n ≤ n
same n = omega arith

-- the highest bit of an octet
high : (x : ℕ) → x < 256 → x / 128 ≤ 1
high x h = omega arith

flag-well : (f : List ℕ) → Octets f → flags_of (pdu_of f) / 128 ≤ 1
flag-well f o = high (flags_of (pdu_of f)) (behind f 14 o 2)

stays-frame : {s : State} {a : Arrival} {o : Outcome} → Octets a.octets → WellFormed s → Said s (call.frame a) o → WellFormed o.state
stays-frame {s} O W (said.by_rules_1_to_4 (judging.frame_2 a v)) = W
stays-frame {s} O W (said.by_rules_1_to_4 (judging.frame_1 a v n)) = W
stays-frame {s} O W (said.by_rules_1_to_4 (judging.frame_6_receive a v l g)) = W
stays-frame {s} O W (said.by_rules_1_to_4 (judging.frame_6_transmit a v l g)) = W
stays-frame {s} O W (said.by_rules_1_to_4 (judging.rule_1_received a h k e)) =
    put-well s word.received (_) (record {
      own = λ h. absurd (omega arith);
      alarm = λ h k. absurd (omega arith);
      some = λ e. absurd (omega arith);
      next = λ e. absurd (omega arith);
    }) W
stays-frame {s} O W (said.by_rules_1_to_4 (judging.rule_1_sent a h k e)) =
    put-well s word.sent (_) (record {
      own = λ h. absurd (omega arith);
      alarm = λ h k. absurd (omega arith);
      some = λ e. absurd (omega arith);
      next = λ e. absurd (omega arith);
    }) W
stays-frame {s} O W (said.by_rules_1_to_4 (judging.rule_2_d1 a h e k)) = W
stays-frame {s} O W (said.by_rules_1_to_4 (judging.rule_2_above a o k)) = W
stays-frame {s} O W (said.by_rules_1_to_4 (judging.rule_2_passive a o e k)) = W
stays-frame {s} O W (said.by_rules_1_to_4 (judging.rule_3_ccm a o e k g)) =
    put-well s word.unexpected_level (hold s) (record
    { own = λ h. same (hold s); alarm = λ h k. absurd (omega arith); some = λ e. absurd (omega arith); next = λ e. absurd (omega arith) }) W
stays-frame {s} O W (said.by_rules_1_to_4 (judging.rule_3_other a o e k g)) = W
stays-frame {s} O W (said.by_rules_1_to_4 (judging.rule_4_d3 a l k)) = W
stays-frame {s} O W (said.by_rules_1_to_4 (judging.rule_4_d4 a l k)) = W
stays-frame {s} O W (said.by_rules_1_to_4 (judging.rule_4_d5 a least l h k d)) = W
stays-frame {s} O W (said.by_rules_1_to_4 (judging.rule_4_d6 a least l h k u d)) = W
stays-frame {s} O W (said.by_rules_1_to_4 (judging.rule_4_d7_ccm a l q e z)) = W
stays-frame {s} O W (said.by_rules_1_to_4 (judging.rule_4_d7_alarm a l q e z)) = W
stays-frame {s} O W (said.by_rules_1_to_4 (judging.rule_4_d7_delay a l k)) = W
stays-frame {s} O W (said.by_rules_5_to_8 (handling.rule_5_mismerge a k m)) =
    put-well s word.mismerge (hold s) (record {
      own = λ h. same (hold s);
      alarm = λ h k. absurd (omega arith);
      some = λ e. absurd (omega arith);
      next = λ e. absurd (omega arith);
    }) W
stays-frame {s} O W (said.by_rules_5_to_8 (handling.rule_5_mep a k m u)) =
    put-well s word.unexpected_mep (hold s) (record
    { own = λ h. same (hold s); alarm = λ h k. absurd (omega arith); some = λ e. absurd (omega arith); next = λ e. absurd (omega arith) }) W
stays-frame {s} O W (said.by_rules_5_to_8 (handling.rule_5_peer a k p e)) =
    heard-well s k (hold s) _ p.peer.used (same (hold s)) (flag-well a.octets O) W
stays-frame {s} O W (said.by_rules_5_to_8 (handling.rule_5_period a k p e)) =
    put-well _ word.unexpected_period (hold s) (record
    { own = λ h. same (hold s); alarm = λ h k. absurd (omega arith); some = λ e. absurd (omega arith); next = λ e. absurd (omega arith) })
    (heard-well s k (hold s) _ p.peer.used (same (hold s)) (flag-well a.octets O) W)
stays-frame {s} O W (said.by_rules_5_to_8 (handling.rule_5_ais a l q e o)) =
    put-well s word.ais (hold_of (code a)) (record {
      own = λ h. absurd (omega arith);
      alarm = λ h k. alarm-hold (code a) o;
      some = λ e. absurd (omega arith);
      next = λ e. absurd (omega arith);
    }) W
stays-frame {s} O W (said.by_rules_5_to_8 (handling.rule_5_lck a l q e o)) =
    put-well s word.lck (hold_of (code a)) (record {
      own = λ h. absurd (omega arith);
      alarm = λ h k. alarm-hold (code a) o;
      some = λ e. absurd (omega arith);
      next = λ e. absurd (omega arith);
    }) W
stays-frame {s} O W (said.by_rules_5_to_8 (handling.rule_6 a reply l q r h)) = W
stays-frame {s} O W (said.by_rules_5_to_8 (handling.frame_3 a reply l q r h)) = W
stays-frame {s} O W (said.by_rules_5_to_8 (handling.rule_7_first a l k)) =
    session-put s _ (first-well s.session (made.reading s a) W.session k) W
stays-frame {s} O W (said.by_rules_5_to_8 (handling.rule_7_later a l k m)) =
    session-put s _ (later-well s.session (made.reading s a) W.session k m) W
stays-frame {s} O W (said.by_rules_5_to_8 (handling.frame_5 a l k m)) = W
stays-frame {s} O W (said.by_rules_5_to_8 (handling.rule_8_two_way a g p h)) = W
stays-frame {s} O W (said.by_rules_5_to_8 (handling.rule_8_all_ways a g p x y z)) = W
stays-frame {s} O W (said.by_rules_5_to_8 (handling.rule_8_d8_two_way a g p h)) = W
stays-frame {s} O W (said.by_rules_5_to_8 (handling.rule_8_d8_all_ways a g p h)) = W
stays-frame {s = s} {a = a} {o = o} O W (said.by_call x3) = elim x3 [ ]

stays-setting : {s : State} {t : Settings} {o : Outcome} → WellFormed s → Said s (call.new_setting t) o → WellFormed o.state
stays-setting w (said.by_call (calling.setting_4 t z v h)) = w
stays-setting w (said.by_call (calling.setting_starts t f v h)) = rw (← fresh_is t f h) (starts.well t v)

-- what a call leaves, our box's as any other's
pub stays : (s : State) (c : Call) (o : Outcome) → OnWire c → WellFormed s → Said s c o → WellFormed o.state
stays s (call.new_setting t) o u w p = stays-setting w p
stays s (call.frame a) o u w p = stays-frame u.octets w p
stays s (call.tick b) o u w p =
    rw (← ap (λ (x : Outcome). x.state) (ours-follows.box.follows s (call.tick b) o u p)) (ticks.stays s b w)
stays s call.clear o u w p = rw (← ap (λ (x : Outcome). x.state) (ours-follows.box.follows s call.clear o u p)) (clears.stays s w)
stays s (call.send_LMM b) o u w p =
    rw (← ap (λ (x : Outcome). x.state) (ours-follows.box.follows s (call.send_LMM b) o u p)) (rw (sends-lmm.keeps s b) w)
stays s (call.send_DMM t b) o u w p =
    rw (← ap (λ (x : Outcome). x.state) (ours-follows.box.follows s (call.send_DMM t b) o u p)) (rw (sends-dmm.keeps s t b) w)
stays s call.conditions o u w p = rw (← ap (λ (x : Outcome). x.state) (ours-follows.box.follows s call.conditions o u p)) w
