-- The paper says something of every frame: refusals first, then rules 1 to 4 in turn. Assumes nothing.
use Prim.Native.Nat.{◌≤◌, ◌<◌}
use mathlib.Core.Path.{◌≡◌}
use mathlib.Core.Bool.{◌&&◌}
use mathlib.Core.Logic.{⊎_elim}
use native.Mathlib.Omega.{arith}
use lib.Dec.{leb, ltb, eqb}
use lib.ListN.{length}
use borrow.Author.Tests.{leb-true, ltb-true, ltb-false, eqb-true, eqb-false}
use Rattle.base_laws.proofs.Tests.{split as both}
use Rattle.base_octets.specs.Octets.{Octets}
use Rattle.base_stamp.specs.Stamps.{good}
use Rattle.frame_opcodes.specs.Opcodes.{rule_of}
use Rattle.frame_head.specs.Head.{ether_type_of, length_good, offset_of, start_of}
use Rattle.frame_tlvs.specs.Tlvs.{walk_from, is_cut}
use Rattle.frame_message.specs.Told.{good_opcode}
use Rattle.state_view.specs.State.{State}
use Rattle.state_view.specs.WellFormed.{well_formed}
use Rattle.state_view.proofs.Rules.{well_formed_is}
use Rattle.receive_decide.specs.Decide.{is_ours}
use Rattle.paper_said.specs.Calls as call
use Rattle.paper_said.specs.Calls.{active, passive, Arrival}
use Rattle.paper_said.specs.Cases.{pdu, opcode, level, LengthGood, Heeded, Oam, OwnLevel}
use Rattle.paper_said.specs.Said as said
use Rattle.paper_said.specs.Judged as judging
use Rattle.paper_said.proofs.Messages.{run_ends, ends-run, behind}
use Rattle.paper_said.proofs.Rows.{row-handled, handled-row}
use Rattle.paper_said.proofs.Sixth.{ours_then, not-ours_then}
use Rattle.paper_said.proofs.Lower.{ccm_test, is-ccm}
use Rattle.paper_said.proofs.Stamps.{good-yes, good-only}
use Rattle.paper_said.proofs.MeetsRefused.{long as long-yes}
use Rattle.paper_said.proofs.Something.{Something, split, clash, either}
use Rattle.paper_said.proofs.EveryMessage.{sound-own}

module _ (s : State) (a : Arrival) (w : Octets a.octets) where
  own-level : OwnLevel s a → Something s (call.frame a)
  own-level l =
      split (rule_of (opcode a)).handled
      (λ h.
      let row = handled-row (opcode a) h in
      split (ltb (offset_of (pdu a)) row.0)
      (λ t. (
        _,
        said.by_rules_1_to_4 (judging.rule_4_d4 a l
            (record { least = row.0; handled = row.1; below = ltb-true (offset_of (pdu a)) row.0 t })),
      ))
      (λ t.
      let enough = ltb-false (offset_of (pdu a)) row.0 t in
      split (is_cut (walk_from 0 (start_of (pdu a)) (pdu a)))
      (λ c. (
        _,
        said.by_rules_1_to_4 (judging.rule_4_d5 a row.0 l row.1 enough
            (λ ts r. clash c (run_ends (pdu a) (start_of (pdu a)) ts r))),
      ))
      (λ c.
      let r = ends-run (pdu a) (start_of (pdu a)) (behind a.octets 14 w) c in
      split (is_ours s.settings.own s.settings.losspeer a.octets)
      (λ o. sound-own s a w l (record {
        least = row.0;
        handled = row.1;
        offset = enough;
        tlvs = λ n. n r.0 r.1;
        destination = ours_then s a o;
      }) row.1)
      (λ o. (_, said.by_rules_1_to_4 (judging.rule_4_d6 a row.0 l row.1 enough (λ n. n r.0 r.1) (not-ours_then s a o)))))))
      (λ h. (_, said.by_rules_1_to_4 (judging.rule_4_d3 a l (λ least r. clash (row-handled r) h))))

  -- ── rules 2 and 3 ──

  below-ours : Oam s a → a.side ≡ active → level a < s.settings.level → Something s (call.frame a)
  below-ours o e k =
      split (eqb (good_opcode a.octets) 1 && is_ours s.settings.own s.settings.losspeer a.octets)
      (λ t. (_, said.by_rules_1_to_4 (judging.rule_3_ccm a o e k (is-ccm s a o w t))))
      (λ t. (_, said.by_rules_1_to_4 (judging.rule_3_other a o e k (λ g. clash (ccm_test s a o g) t))))

  from-active : Oam s a → a.side ≡ active → level a ≤ s.settings.level → Something s (call.frame a)
  from-active o e k =
      split (ltb (level a) s.settings.level)
      (λ t. below-ours o e (ltb-true (level a) s.settings.level t))
      (λ t. let m = ltb-false (level a) s.settings.level t in own-level (record { oam = o; side = e; level = omega (arith, k, m) }))

  oam : Oam s a → Something s (call.frame a)
  oam o =
      split (ltb s.settings.level (level a))
      (λ t. (_, said.by_rules_1_to_4 (judging.rule_2_above a o (ltb-true s.settings.level (level a) t))))
      (λ t. let k = ltb-false s.settings.level (level a) t in
      ⊎_elim (λ (e : a.side ≡ active). from-active o e k)
      (λ (e : a.side ≡ passive). (_, said.by_rules_1_to_4 (judging.rule_2_passive a o e k))) (either a.side))

  -- ── rule 1 ──

  rules : Heeded s a → Something s (call.frame a)
  rules h =
      split (eqb (ether_type_of a.octets) 0x8902)
      (λ t. let e = eqb-true (ether_type_of a.octets) 0x8902 t in
      split (ltb (length a.octets) 18)
      (λ k. (_, said.by_rules_1_to_4 (judging.rule_2_d1 a h e (ltb-true (length a.octets) 18 k))))
      (λ k. oam (record { heeded = h; ether = e; head = ltb-false (length a.octets) 18 k })))
      (λ t. let n = eqb-false (ether_type_of a.octets) 0x8902 t in
      ⊎_elim (λ (e : a.side ≡ active). (_, said.by_rules_1_to_4 (judging.rule_1_received a h n e)))
      (λ (e : a.side ≡ passive). (_, said.by_rules_1_to_4 (judging.rule_1_sent a h n e))) (either a.side))

  -- ── refusals ──

  pub frames : Something s (call.frame a)
  frames =
      split (well_formed s)
      (λ v. let well = (well_formed_is.well_formed_is s).0 v in
      split (length_good a.octets)
      (λ n. let p = both (leb 14 (length a.octets)) (leb (length a.octets) 1514) n in
      let long : LengthGood a = record { least = leb-true 14 (length a.octets) p.0; most = leb-true (length a.octets) 1514 p.1 }
      in
      split (good a.receive)
      (λ r.
      split (good a.transmit)
      (λ t. rules (record { well = well; long = long; receive = good-only a.receive r; transmit = good-only a.transmit t }))
      (λ t. (_, said.by_rules_1_to_4 (judging.frame_6_transmit a well long (λ g. clash (good-yes a.transmit g) t)))))
      (λ r. (_, said.by_rules_1_to_4 (judging.frame_6_receive a well long (λ g. clash (good-yes a.receive g) r)))))
      (λ n. (_, said.by_rules_1_to_4 (judging.frame_1 a well (λ l. clash (long-yes a l) n)))))
      (λ v. (_, said.by_rules_1_to_4 (judging.frame_2 a (λ k. clash ((well_formed_is.well_formed_is s).1 k) v))))
