-- A reply reads back as the request with what differs: the statement of specs/Replies.antt. Assumes nothing.
use Prim.Native.Nat.{ℕ, ◌+◌, ◌≤◌}
use mathlib.Core.Path.{◌≡◌, refl, sym, ap, ap₂, ◌∙◌}
use mathlib.Core.Bool.{false, ◌||◌, cond}
use mathlib.Core.List.{List}
use native.Mathlib.Omega.{arith}
use lib.Dec.{eqb}
use borrow.Author.Tests.{le-ltb}
use lib.ListN.{length, drop}
use Rattle.std.specs.Prelude.{Ok}
use Rattle.base_laws.specs.Tests.{choose}
use Rattle.base_laws.specs.Lists.{part}
use Rattle.base_numbers.specs.Numbers.{number, big_endian}
use Rattle.base_stamp.specs.declared.Stamp.{Stamp}
use Rattle.base_stamp.specs.Stamps.{Wire}
use Rattle.frame_opcodes.specs.Opcodes.{rule_of}
use Rattle.frame_head.specs.Head.{pdu_of, word}
use Rattle.frame_message.specs.Message.{message_of}
use Rattle.frame_message.specs.Told.{good_opcode}
use Rattle.frame_loopback_alarm.specs.Fixed.{transaction_of}
use Rattle.frame_measures.specs.Measures.{loss_in, no_loss, loss_of, delay_in, no_delay, delay_of}
use Rattle.message_parts.specs.Messages.{count, stamp_octets}
use Rattle.message_parts.proofs.Laid.{count_long, stamp-long}
use Rattle.message_lbr.specs.Lbr.{lbr_octets}
use Rattle.message_lmr.specs.Lmr.{lmr_octets}
use Rattle.message_dmr.specs.Dmr.{dmr_octets}
use Rattle.message_reply.specs.Replied.{cut_off}
use Rattle.message_readback.specs.Heads.{Word}
use Rattle.message_readback.specs.Replies.{Answers, RepliesBack}
use Rattle.message_readback.proofs.WordsRead.{alike, in_pdu, count_word, seconds-word, nanoseconds-word, loss-in, delay-in}
use Rattle.message_readback.proofs.Kept.{Head, reply-head, reply_tail}
use Rattle.message_readback.proofs.AnswerReads.{answers, opcode-told}
use Rattle.message_readback.proofs.RequestKnown.{Request, requested}
use Rattle.message_readback.proofs.TwoLaid.{two_replied}

-- ── LBR ──

module _ (own request : List ℕ) (o : length own ≡ 6) (e : message_of request ≡ Ok 3) where
  lbr-asked : Request request 3 4
  unfolding rule_of choose
  lbr-asked = requested request 3 4 e (omega arith) refl

  lbr-head : Head own request 2 (lbr_octets own request)
  lbr-head = reply-head own request 2 o (omega (arith, lbr-asked.long))

  lbr_tail : (k : ℕ) → 16 ≤ k → drop k (lbr_octets own request) ≡ drop k request
  lbr_tail = reply_tail own request 2 o (omega (arith, lbr-asked.long))

  lbr : Answers own request 2 (lbr_octets own request) × (transaction_of (lbr_octets own request) ≡ transaction_of request)
  unfolding rule_of choose transaction_of
  lbr =
      let f = lbr_octets own request in
      let q = lbr-asked in
      let tail : (at : ℕ) → 22 ≤ at → drop at f ≡ drop at request = λ at h. lbr_tail at (omega arith) in
      let op : good_opcode f ≡ 2 = opcode-told own request f 2 4 q.good q.least lbr-head refl refl (λ c. refl) tail in
      let kept : word 4 (pdu_of f) ≡ word 4 (pdu_of request) =
      ap (number big_endian) (in_pdu 4 4 f ∙ alike 18 0 4 f request (lbr_tail 18 (omega arith)) ∙ sym (in_pdu 4 4 request)) in (
        answers own request f 2 4 q.good q.least lbr-head refl refl (λ c. refl) tail,
        ap₂ (λ (o w : ℕ). cond (eqb o 3 || eqb o 2) w 0) op kept
            ∙ sym (ap (λ (o : ℕ). cond (eqb o 3 || eqb o 2) (word 4 (pdu_of request)) 0) q.told_is),
      )

-- ── LMR ──

module _ (own request : List ℕ) (received sent : ℕ) (o : length own ≡ 6) (hr : Word received) (hs : Word sent)
    (e : message_of request ≡ Ok 43) where
  lmr : Answers own request 42 (lmr_octets own received sent request)
      × (loss_of (lmr_octets own received sent request) ≡ record { txfcf = (loss_of request).txfcf; rxfcf = received; txfcb = sent })
  unfolding lmr_octets loss_of rule_of choose
  lmr =
      let q = requested request 43 12 e (omega arith) refl in
      let f = lmr_octets own received sent request in
      let r =
      two_replied own request 42 8 4 12 43 (count received) (count sent) o (count_long received) (count_long sent)
      (omega arith) (omega arith) q refl refl (λ c. refl) in
      let read : (loss_of request).txfcf ≡ word 4 (pdu_of request) =
      ap (λ (o : ℕ). (cond (eqb o 43 || eqb o 42) (loss_in (pdu_of request)) no_loss).txfcf) q.told_is in (
        r.answered,
        ap (λ (o : ℕ). cond (eqb o 43 || eqb o 42) (loss_in (pdu_of f)) no_loss) r.opcode
            ∙ loss-in (pdu_of f)
            (r.kept 0 (omega arith) ∙ sym read)
            (r.first 0 (omega arith) ∙ count_word received hr)
            (r.second 0 (omega arith) ∙ count_word sent hs),
      )

-- ── DMR ──

module _ (own request : List ℕ) (receive transmit : Stamp) (o : length own ≡ 6) (hr : Wire receive) (ht : Wire transmit)
    (e : message_of request ≡ Ok 47) where
  dmr : Answers own request 46 (dmr_octets own receive transmit request)
      × (delay_of (dmr_octets own receive transmit request)
      ≡ record { txtimestampf = (delay_of request).txtimestampf; rxtimestampf = receive; txtimestampb = transmit })
      × (part 28 8 (pdu_of (dmr_octets own receive transmit request)) ≡ part 28 8 (pdu_of request))
  unfolding dmr_octets delay_of rule_of choose
  dmr =
      let q = requested request 47 32 e (omega arith) refl in
      let f = dmr_octets own receive transmit request in
      let r =
      two_replied own request 46 12 8 32 47 (stamp_octets receive) (stamp_octets transmit) o (stamp-long receive) (stamp-long transmit)
      (omega arith) (omega arith) q refl refl (λ c. refl) in
      let read : (delay_of request).txtimestampf ≡ record { seconds = word 4 (pdu_of request); nanoseconds = word 8 (pdu_of request) } =
      ap (λ (o : ℕ). (cond (eqb o 47 || eqb o 46) (delay_in (pdu_of request)) no_delay).txtimestampf) q.told_is in (
        r.answered,
        ap (λ (o : ℕ). cond (eqb o 47 || eqb o 46) (delay_in (pdu_of f)) no_delay) r.opcode
            ∙ delay-in (pdu_of f)
            (r.kept 0 (omega arith))
            (r.kept 4 (omega arith))
            (r.first 0 (omega arith) ∙ seconds-word receive hr)
            (r.first 4 (omega arith) ∙ nanoseconds-word receive hr)
            (r.second 0 (omega arith) ∙ seconds-word transmit ht)
            (r.second 4 (omega arith) ∙ nanoseconds-word transmit ht)
            ∙ ap (λ (t : Stamp). record { txtimestampf = t; rxtimestampf = receive; txtimestampb = transmit }) (sym read),
        in_pdu 28 8 f ∙ alike 42 0 8 f request (r.behind 42 (omega arith)) ∙ sym (in_pdu 28 8 request),
      )

-- ── the fixed part ──

-- a request's fixed part is there
uncut : (f : List ℕ) (k n : ℕ) → Request f k n → cut_off n f ≡ false
uncut f k n q = le-ltb (length f) (18 + n) (omega (arith, q.long))

whole : (request : List ℕ)
    → (message_of request ≡ Ok 3 → cut_off 4 request ≡ false)
    × (message_of request ≡ Ok 43 → cut_off 12 request ≡ false)
    × (message_of request ≡ Ok 47 → cut_off 32 request ≡ false)
unfolding rule_of choose
whole f = (
  λ e. uncut f 3 4 (requested f 3 4 e (omega arith) refl),
  λ e. uncut f 43 12 (requested f 43 12 e (omega arith) refl),
  λ e. uncut f 47 32 (requested f 47 32 e (omega arith) refl),
)

pub replies-back : RepliesBack
replies-back = record { whole = whole; lbr = lbr; lmr = lmr; dmr = dmr }
