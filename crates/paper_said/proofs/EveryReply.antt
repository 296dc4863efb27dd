-- The paper says something of every loss reply and every delay reply of our own. Assumes nothing.
use Prim.Native.Nat.{◌^◌}
use mathlib.Core.Path.{◌≡◌}
use native.Mathlib.Omega.{arith}
use lib.Dec.{ltb, eqb}
use lib.Signed.{mag}
use borrow.Author.Tests.{ltb-true, ltb-false, lt-ltb, eqb-true, eqb-false}
use Rattle.base_laws.specs.Lists.{every}
use Rattle.base_octets.specs.Octets.{Octets}
use Rattle.base_stamp.specs.Stamps.{good}
use Rattle.loss_session.specs.Session.{most_intervals}
use Rattle.receive_delay.specs.Used.{paired, usable, between}
use Rattle.receive_delay.specs.Delays.{formed, held}
use Rattle.state_view.specs.State.{State}
use Rattle.paper_said.specs.Calls as call
use Rattle.paper_said.specs.Calls.{Arrival}
use Rattle.paper_said.specs.Cases.{opcode, OwnLevel}
use Rattle.paper_said.specs.Drops.{Sound}
use Rattle.paper_said.specs.Taken as taken
use Rattle.paper_said.specs.Said as said
use Rattle.paper_said.specs.Judged as judging
use Rattle.paper_said.specs.Handling as handling
use Rattle.paper_said.proofs.Stamps as Stamps
use Rattle.paper_said.proofs.Delays as Delays
use Rattle.paper_said.proofs.Something.{Something, split, clash}

module _ (s : State) (a : Arrival) (w : Octets a.octets) where
  module _ (l : OwnLevel s a) (q : Sound s a) where
    pub own-lmr : opcode a ≡ 42 → Something s (call.frame a)
    own-lmr op =
        let r : taken.LossReply s a = record { own = l; sound = q; lmr = op } in
        let x = l.oam.heeded.well.session in
        split (eqb s.session.kept 0)
        (λ z. (_, said.by_rules_5_to_8 (handling.rule_7_first a r (eqb-true s.session.kept 0 z))))
        (λ z.
        let n = eqb-false s.session.kept 0 z in
        let kept : s.session.kept ≡ 1 = omega (arith, x.flag, n) in
        split (ltb s.session.intervals most_intervals)
        (λ t. (_, said.by_rules_5_to_8 (handling.rule_7_later a r kept (ltb-true s.session.intervals most_intervals t))))
        (λ t. let least = ltb-false s.session.intervals most_intervals t in
        (_, said.by_rules_5_to_8 (handling.frame_5 a r kept (omega (arith, least, x.few))))))

    pub own-dmr : opcode a ≡ 46 → Something s (call.frame a)
    own-dmr op =
        let r : taken.DelayReply s a = record { own = l; sound = q; dmr = op } in
        split (usable (taken.txf a) (taken.rxf a) (taken.txb a) a.receive)
        (λ u.
        let g : taken.GoodDelay s a = record { reply = r; good = Delays.useful-not-bad a u } in
        split (paired (taken.rxf a) (taken.txb a))
        (λ p.
        split (every held (formed (taken.txf a) (taken.rxf a) (taken.txb a) a.receive))
        (λ e. let h = Delays.all_held a g.good (Stamps.paired-only a p) e in
        (_, said.by_rules_5_to_8 (handling.rule_8_all_ways a g (Stamps.paired-only a p) h.0 h.1 h.2)))
        (λ e. (
          _,
          said.by_rules_5_to_8 (handling.rule_8_d8_all_ways a g (Stamps.paired-only a p)
              (λ x y z. clash (Delays.held_all a g.good (Stamps.paired-only a p) x y z) e)),
        )))
        (λ p.
        split (ltb (mag (between (taken.txf a) a.receive)) (2 ^ 63))
        (λ e. (_, said.by_rules_5_to_8 (handling.rule_8_two_way a g (λ x. clash (Stamps.paired_yes a x) p) (ltb-true _ _ e))))
        (λ e. (
          _,
          said.by_rules_5_to_8 (handling.rule_8_d8_two_way a g (λ x. clash (Stamps.paired_yes a x) p)
              (λ h. clash (lt-ltb (mag (between (taken.txf a) a.receive)) (2 ^ 63) h) e)),
        ))))
        (λ u. (_, said.by_rules_1_to_4 (judging.rule_4_d7_delay a r (Delays.not-useful-bad a u))))
