-- What each message that the box sends reads as, by citation of what its octets read as. Assumes nothing.
use Prim.Native.Nat.{ℕ, suc, ◌≤◌, ◌<◌}
use mathlib.Core.Path.{◌≡◌, sym, ap, ◌∙◌}
use mathlib.Core.List.{List}
use native.Mathlib.Omega.{arith}
use lib.ListN.{length}
use Rattle.base_laws.specs.Lists.{part, laid}
use Rattle.base_laws.proofs.Overlaid.{laid-back}
use Rattle.state_settings.specs.Valid.{Valid}
use Rattle.base_stamp.specs.declared.Stamp.{Stamp}
use Rattle.base_stamp.specs.Stamps.{Wire}
use Rattle.state_view.specs.State.{State}
use Rattle.state_view.specs.WellFormed.{WellFormed}
use Rattle.message_ccm.proofs.Laid.{ccm-long}
use Rattle.message_requests.proofs.Laid.{lmm-long, dmm-long}
use Rattle.message_readback.specs.Sent.{CcmGiven, LmmBack, DmmBack}
use Rattle.message_readback.proofs.Sent.{sent_back}
use Rattle.message_readback.proofs.Replies.{replies-back}
use Rattle.frame_head.specs.Head.{flags_of, start_of}
use Rattle.frame_message.specs.Message.{message_of, judged_of}
use Rattle.paper_said.specs.Calls.{Arrival, frame, tick, send_LMM, send_DMM, Answer, refused, dropped, passed, taken, written, loss, delay}
use Rattle.paper_said.specs.Calls.{delays, done, standing, Outcome, OnWire}
use Rattle.paper_said.specs.Cases.{pdu, opcode, OwnLevel}
use Rattle.paper_said.specs.Drops.{Sound}
use Rattle.paper_said.specs.Standing.{Flag, on, off}
use Rattle.paper_said.specs.Made.{ccm_values, ccm_from, lmm_from, dmm_from, Reply, lbr, lmr, dmr}
use Rattle.paper_said.specs.Called.{tick_2, tick_3, tick_lowers, tick_sends, lmm_2, lmm_3, lmm_sends, dmm_2, dmm_6, dmm_3, dmm_sends}
use Rattle.paper_said.specs.Said.{Said, by_call}
use Rattle.paper_said.proofs.Rows.{row-known, row-least}
use Rattle.paper_said.proofs.Messages.{judged, uncut}
use Rattle.paper_said.proofs.Codes as code
use Rattle.paper_order.specs.Demand2.{InMemory, CcmSent, ReplyBack}
use Rattle.paper_order.specs.Demand2 as back

-- the length of what was written, one more, to tell that answer from all others
length-of : Answer → ℕ
length-of (refused n) = 0
length-of (dropped n) = 0
length-of passed = 0
length-of taken = 0
length-of (written n) = suc n
length-of (loss n f) = 0
length-of (delay t) = 0
length-of (delays t f n) = 0
length-of done = 0
length-of (standing r) = 0

-- what is laid in front is read from there
pub in_front : (n : ℕ) (xs b : List ℕ) → length xs ≡ n → n ≤ length b → part 0 n (laid 0 xs b) ≡ xs
in_front n xs b e h = ap (λ (k : ℕ). part 0 k (laid 0 xs b)) (sym e) ∙ laid-back 0 xs b (omega (arith, e, h))

small : {P : Type 0} {n : ℕ} → Flag P n → n < 2
small (on p) = omega arith
small (off p) = omega arith

module _ (s : State) (m : InMemory s) where
  valid : WellFormed s → Valid s.settings
  valid w = w.settings

  given : (rdi : ℕ) → WellFormed s → rdi < 2 → CcmGiven s.settings.own s.settings.meg (ccm_values s rdi)
  given rdi w h =
      let v = valid w in
      record {
        sourced = m.settings.own;
        named = m.settings.meg;
        level = omega (arith, v.level);
        rdi = h;
        some = v.some_period;
        period = omega (arith, v.period);
        sequence = omega arith;
        mep = omega (arith, v.mep.most);
        txfcf = omega arith;
        rxfcb = omega arith;
        txfcb = omega arith;
      }

  pub ccm-of : {b : List ℕ} {o : Outcome} {n : ℕ} → Said s (tick b) o → o.answer ≡ written n → (n ≡ 89) × CcmSent s o.buffer
  unfolding length-of
  ccm-of (by_call (tick_2 b h)) e = absurd (omega (arith, ap length-of e))
  ccm-of (by_call (tick_3 b w x h)) e = absurd (omega (arith, ap length-of e))
  ccm-of (by_call (tick_lowers b w x)) e = absurd (omega (arith, ap length-of e))
  ccm-of (by_call (tick_sends b rdi w x h flag)) e =
      let long = ccm-long s.settings.own s.settings.meg (ccm_values s rdi) m.settings.own m.settings.meg in
      let back = sent_back.ccm s.settings.own s.settings.meg (ccm_values s rdi) (given rdi w (small flag)) in
      (omega (arith, ap length-of e), record { rdi = rdi; says = flag; back = rw (in_front 89 (ccm_from s rdi) b long h) back })

  pub lmm-of : {b : List ℕ} {o : Outcome} {n : ℕ} → Said s (send_LMM b) o → o.answer ≡ written n
      → (n ≡ 31) × LmmBack s.settings.losspeer s.settings.own s.settings.level s.sent (part 0 31 o.buffer)
  unfolding length-of
  lmm-of (by_call (lmm_2 b h)) e = absurd (omega (arith, ap length-of e))
  lmm-of (by_call (lmm_3 b w h)) e = absurd (omega (arith, ap length-of e))
  lmm-of (by_call (lmm_sends b w h)) e =
      let v = valid w in
      let long = lmm-long s.settings.losspeer s.settings.own s.settings.level s.sent m.settings.losspeer
      m.settings.own in
      let back = sent_back.lmm s.settings.losspeer s.settings.own s.settings.level s.sent m.settings.losspeer
      m.settings.own (omega (arith, v.level)) m.sent in
      (omega (arith, ap length-of e), rw (in_front 31 (lmm_from s) b long h) back)

  pub dmm-of : {t : Stamp} {b : List ℕ} {o : Outcome} {n : ℕ} → Wire t → Said s (send_DMM t b) o → o.answer ≡ written n
      → (n ≡ 51) × DmmBack s.settings.losspeer s.settings.own s.settings.level t (part 0 51 o.buffer)
  unfolding length-of
  dmm-of wire (by_call (dmm_2 t b h)) e = absurd (omega (arith, ap length-of e))
  dmm-of wire (by_call (dmm_6 t b w h)) e = absurd (omega (arith, ap length-of e))
  dmm-of wire (by_call (dmm_3 t b w g h)) e = absurd (omega (arith, ap length-of e))
  dmm-of wire (by_call (dmm_sends t b w g h)) e =
      let v = valid w in
      let long = dmm-long s.settings.losspeer s.settings.own s.settings.level t m.settings.losspeer m.settings.own in
      let back = sent_back.dmm s.settings.losspeer s.settings.own s.settings.level t m.settings.losspeer m.settings.own
      (omega (arith, v.level)) wire in
      (omega (arith, ap length-of e), rw (in_front 51 (dmm_from s t) b long h) back)

-- a sound frame of our level is the message that its opcode and flags tell
message : (s : State) (a : Arrival) → OwnLevel s a → Sound s a → message_of a.octets ≡ judged_of (opcode a) (flags_of (pdu a))
message s a w q =
    judged a.octets w.oam.heeded.long.least w.oam.heeded.long.most w.oam.ether w.oam.head (row-known q.handled)
    (rw (row-least q.handled) q.offset)
    (uncut (pdu a) (start_of (pdu a)) q.tlvs)

pub reply-of : (s : State) (a : Arrival) (octets : List ℕ) → InMemory s → OnWire (frame a) → OwnLevel s a → Sound s a → Reply s a octets
    → ReplyBack s a octets
reply-of s a octets m wire w q (lbr e) =
    let b = replies-back.lbr s.settings.own a.octets m.settings.own (message s a w q ∙ code.lbm (flags_of (pdu a)) e) in
    back.lbr e b.0 b.1
reply-of s a octets m wire w q (lmr e) =
    let b = replies-back.lmr s.settings.own a.octets s.received s.sent m.settings.own m.received m.sent
    (message s a w q ∙ code.lmm (flags_of (pdu a)) e) in
    back.lmr e b.0 b.1
reply-of s a octets m wire w q (dmr e) =
    let b = replies-back.dmr s.settings.own a.octets a.receive a.transmit m.settings.own wire.receive wire.transmit
    (message s a w q ∙ code.dmm (flags_of (pdu a)) e) in
    back.dmr e b.0 b.1
