-- The paper says something of every sound message at our own level, whichever of the eight it is. Assumes nothing.
use Prim.Native.Nat.{ℕ, ◌≤◌, ◌<◌}
use mathlib.Core.Path.{◌≡◌, refl, sym, ◌∙◌}
use mathlib.Core.Bool.{Bool, true, false, true≢false}
use mathlib.Core.List.{List, [], ◌∷◌}
use native.Mathlib.Omega.{arith}
use lib.Dec.{ltb, eqb}
use lib.ListN.{length}
use borrow.Author.Tests.{ltb-true, ltb-false, eqb-true, eqb-false}
use Rattle.base_laws.specs.Lists.{same, place_of}
use Rattle.base_laws.proofs.Meanings.{same_is, place_holds}
use Rattle.base_octets.specs.Octets.{Octets}
use Rattle.base_stamp.specs.Stamps.{good}
use Rattle.frame_ccm.specs.Ccm.{ccm_in, meg_in}
use Rattle.frame_message.specs.Message.{alarm_code}
use Rattle.state_view.specs.State.{State}
use Rattle.receive_peer.specs.Peers.{used_peers}
use Rattle.message_lbr.specs.Lbr.{lbr_octets}
use Rattle.message_lmr.specs.Lmr.{lmr_octets}
use Rattle.message_dmr.specs.Dmr.{dmr_octets}
use Rattle.paper_said.specs.Calls as call
use Rattle.paper_said.specs.Calls.{Arrival}
use Rattle.paper_said.specs.Cases.{pdu, opcode, OneOf, here, there, OwnLevel}
use Rattle.paper_said.specs.Drops.{Handled, Sound, code}
use Rattle.paper_said.specs.Taken.{PeerAt, OwnCcm}
use Rattle.paper_said.specs.Drops as drops
use Rattle.paper_said.specs.Said as said
use Rattle.paper_said.specs.Judged as judging
use Rattle.paper_said.specs.Handling as handling
use Rattle.paper_said.specs.Made as made
use Rattle.paper_said.proofs.Codes.{code-yes}
use Rattle.paper_said.proofs.Peers.{used-long, used-at, found}
use Rattle.paper_said.proofs.Something.{Something, split, clash}
use Rattle.paper_said.proofs.EveryReply.{own-lmr, own-dmr}

-- which of the eight a handled opcode is
data Which (op : ℕ) : Type 0 where
  ccm : op ≡ 1 → Which op
  lbm : op ≡ 3 → Which op
  ais : op ≡ 33 → Which op
  lck : op ≡ 35 → Which op
  lmr : op ≡ 42 → Which op
  lmm : op ≡ 43 → Which op
  dmr : op ≡ 46 → Which op
  dmm : op ≡ 47 → Which op

which : {op least : ℕ} → Handled op least → Which op
which drops.ccm = ccm refl
which drops.lbm = lbm refl
which drops.ais = ais refl
which drops.lck = lck refl
which drops.lmr = lmr refl
which drops.lmm = lmm refl
which drops.dmr = dmr refl
which drops.dmm = dmm refl

-- 4 or 6, by the test
alarm-code : (code : ℕ) → alarm_code code ≡ true → OneOf code (4 ∷ 6 ∷ [])
alarm-code code e =
    split (eqb code 4)
    (λ t. rw (eqb-true code 4 t) here)
    (λ f. split (eqb code 6) (λ t. rw (eqb-true code 6 t) (there here))
    (λ g. let x : ◌≡◌ {A = Bool} false true = rw (f, g) at e in absurd (true≢false (sym x))))

module _ (s : State) (a : Arrival) (w : Octets a.octets) where
  module _ (l : OwnLevel s a) (q : Sound s a) where
    -- ── handlers ──

    own-ccm : opcode a ≡ 1 → Something s (call.frame a)
    own-ccm op =
        split (eqb (code a) 0)
        (λ z. (_, said.by_rules_1_to_4 (judging.rule_4_d7_ccm a l q op (eqb-true (code a) 0 z))))
        (λ z.
        let c : OwnCcm s a = record { own = l; good = record { sound = q; ccm = op; period = eqb-false (code a) 0 z } } in
        let u = used_peers s.settings in
        let id = (ccm_in (pdu a)).mep in
        let v = l.oam.heeded.well.settings in
        split (same (meg_in (pdu a)) s.settings.meg)
        (λ t.
        let m = (same_is (meg_in (pdu a)) s.settings.meg).0 t in
        split (ltb (place_of id u) (length u))
        (λ k.
        let inside : place_of id u < length u = ltb-true (place_of id u) (length u) k in
        let used : place_of id u < s.settings.count = omega (arith, inside, used-long s v) in
        let p : PeerAt s (place_of id u) id = record { used = used; same = sym (used-at s v (place_of id u) used) ∙ place_holds id u inside }
        in
        split (eqb (code a) s.settings.period)
        (λ e. (
          _,
          said.by_rules_5_to_8 (handling.rule_5_peer a (place_of id u) (record { ccm = c; meg = m; peer = p })
              (eqb-true (code a) s.settings.period e)),
        ))
        (λ e. (
          _,
          said.by_rules_5_to_8 (handling.rule_5_period a (place_of id u) (record { ccm = c; meg = m; peer = p })
              (eqb-false (code a) s.settings.period e)),
        )))
        (λ k.
        let past : length u ≤ place_of id u = ltb-false (place_of id u) (length u) k in
        (_, said.by_rules_5_to_8 (handling.rule_5_mep a c m (λ j p. omega (arith, past, found s v id j p, p.used, used-long s v))))))
        (λ t. (_, said.by_rules_5_to_8 (handling.rule_5_mismerge a c (λ e. clash ((same_is (meg_in (pdu a)) s.settings.meg).1 e) t)))))

    own-ais : opcode a ≡ 33 → Something s (call.frame a)
    own-ais op =
        split (alarm_code (code a))
        (λ t. (_, said.by_rules_5_to_8 (handling.rule_5_ais a l q op (alarm-code (code a) t))))
        (λ t. (_, said.by_rules_1_to_4 (judging.rule_4_d7_alarm a l q (rw op here) (λ o. clash (code-yes o) t))))

    own-lck : opcode a ≡ 35 → Something s (call.frame a)
    own-lck op =
        split (alarm_code (code a))
        (λ t. (_, said.by_rules_5_to_8 (handling.rule_5_lck a l q op (alarm-code (code a) t))))
        (λ t. (_, said.by_rules_1_to_4 (judging.rule_4_d7_alarm a l q (rw op (there here)) (λ o. clash (code-yes o) t))))

    request : (reply : List ℕ) → made.Reply s a reply → Something s (call.frame a)
    request reply r =
        split (ltb (length a.buffer) (length reply))
        (λ t. (_, said.by_rules_5_to_8 (handling.frame_3 a reply l q r (ltb-true (length a.buffer) (length reply) t))))
        (λ t. (_, said.by_rules_5_to_8 (handling.rule_6 a reply l q r (ltb-false (length a.buffer) (length reply) t))))

    by-which : Which (opcode a) → Something s (call.frame a)
    by-which (ccm e) = own-ccm e
    by-which (lbm e) = request (lbr_octets s.settings.own a.octets) (made.lbr e)
    by-which (ais e) = own-ais e
    by-which (lck e) = own-lck e
    by-which (lmr e) = own-lmr s a w l q e
    by-which (lmm e) = request (lmr_octets s.settings.own s.received s.sent a.octets) (made.lmr e)
    by-which (dmr e) = own-dmr s a w l q e
    by-which (dmm e) = request (dmr_octets s.settings.own a.receive a.transmit a.octets) (made.dmr e)

    pub sound-own : {least : ℕ} → Handled (opcode a) least → Something s (call.frame a)
    sound-own h = by-which (which h)
