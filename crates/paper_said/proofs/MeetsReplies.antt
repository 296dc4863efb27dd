-- Our box follows the paper where it replies to a request: a law for each sentence of rule 6. Assumes nothing.
use Prim.Native.Nat.{ℕ, ◌+◌, ◌≤◌, ◌<◌}
use mathlib.Core.Path.{◌≡◌, refl, ap, ◌∙◌}
use mathlib.Core.Bool.{false}
use mathlib.Core.List.{List}
use native.Mathlib.Omega.{arith}
use lib.ListN.{length, length-drop}
use borrow.Author.Tests.{le-ltb, lt-ltb}
use Rattle.base_laws.specs.Tests.{choose}
use Rattle.base_laws.specs.Lists.{laid}
use Rattle.loss_reading.proofs.Refusals as Loss
use Rattle.state_view.specs.State.{State}
use Rattle.frame_opcodes.specs.Opcodes.{rule_of}
use Rattle.frame_head.specs.Head.{flags_of}
use Rattle.frame_message.proofs.GoodTests.{fixed}
use Rattle.message_reply.specs.Replied.{cut_off}
use Rattle.receive_respond.specs.declared.Request.TheVariants as request
use Rattle.receive_respond.specs.declared.Request.{Request}
use Rattle.receive_respond.specs.Respond.{fixed_for, reply_for, answer_for, responded_of, left_after}
use Rattle.receive_handle.specs.declared.Decision.TheVariants.{Replies}
use Rattle.receive_handle.specs.Handle.{handle_of}
use Rattle.receive_carry_out.specs.CarryOut.{carried_out}
use Rattle.paper_said.specs.Calls as call
use Rattle.paper_said.specs.Calls.{Arrival, leaves, refused, written}
use Rattle.paper_said.specs.Cases.{pdu, opcode, Oam, OwnLevel}
use Rattle.paper_said.specs.Drops.{Sound}
use Rattle.paper_said.specs.Made as made
use Rattle.paper_said.specs.Ours.{ours}
use Rattle.paper_said.proofs.Frames.{decided, left, handles}
use Rattle.paper_said.proofs.Codes as Codes
use Rattle.paper_said.proofs.Lower.{sound-good}

module _ (s : State) (a : Arrival) where
  -- ── rule 6 ──

  -- the octets that the reply lays its counts or stamps over are there
  there : Oam s a → Sound s a → (n : ℕ) → (rule_of (opcode a)).least ≡ n → cut_off n a.octets ≡ false
  there o q n e =
      let f = fixed a.octets (sound-good s a o q) in
      le-ltb (length a.octets) (18 + n) (omega (arith, f, e, length-drop 14 a.octets))

  -- where the buffer is long enough, and where it is not
  answered : (request : Request) → cut_off (fixed_for request) a.octets ≡ false
      → length (reply_for s a.octets a.receive a.transmit request) ≤ length a.buffer
      → decided s a (Replies request) ≡ leaves (written (length (reply_for s a.octets a.receive a.transmit request))) s
      (laid 0 (reply_for s a.octets a.receive a.transmit request) a.buffer)
  unfolding carried_out responded_of left_after answer_for choose
  answered request c h = rw (c, le-ltb (length a.buffer) (length (reply_for s a.octets a.receive a.transmit request)) h)

  no_room : (request : Request) → cut_off (fixed_for request) a.octets ≡ false
      → length a.buffer < length (reply_for s a.octets a.receive a.transmit request)
      → decided s a (Replies request) ≡ leaves (refused 3) s a.buffer
  unfolding carried_out responded_of left_after answer_for choose
  no_room request c h = rw (c, lt-ltb (length a.buffer) (length (reply_for s a.octets a.receive a.transmit request)) h)

  -- which request it is
  asks : (w : OwnLevel s a) (q : Sound s a) (reply : List ℕ) → made.Reply s a reply
      → (request : Request) × ((ours s (call.frame a) ≡ decided s a (Replies request)) × (cut_off (fixed_for request) a.octets ≡ false)
      × (reply ≡ reply_for s a.octets a.receive a.transmit request))
  unfolding handle_of rule_of choose
  asks w q reply (made.lbr e) = (
    request.Loopback,
    (
      left s a w _ (handles s a w q 3 (Codes.lbm (flags_of (pdu a)) e)),
      there w.oam q 4 (ap (λ (x : ℕ). (rule_of x).least) e),
      refl,
    ),
  )
  asks w q reply (made.lmr e) = (
    request.Loss,
    (
      left s a w _ (handles s a w q 43 (Codes.lmm (flags_of (pdu a)) e)),
      there w.oam q 12 (ap (λ (x : ℕ). (rule_of x).least) e),
      refl,
    ),
  )
  asks w q reply (made.dmr e) = (
    request.Delay,
    (
      left s a w _ (handles s a w q 47 (Codes.dmm (flags_of (pdu a)) e)),
      there w.oam q 32 (ap (λ (x : ℕ). (rule_of x).least) e),
      refl,
    ),
  )

  pub replies : (w : OwnLevel s a) (q : Sound s a) (reply : List ℕ) → made.Reply s a reply → length reply ≤ length a.buffer
      → ours s (call.frame a) ≡ leaves (written (length reply)) s (laid 0 reply a.buffer)
  replies w q reply r h = let x = asks w q reply r in
      rw x.1.2 (x.1.0 ∙ answered x.0 x.1.1 (rw x.1.2 at h))

  pub frame_3 : (w : OwnLevel s a) (q : Sound s a) (reply : List ℕ) → made.Reply s a reply → length a.buffer < length reply
      → ours s (call.frame a) ≡ leaves (refused 3) s a.buffer
  frame_3 w q reply r h = let x = asks w q reply r in
      x.1.0 ∙ no_room x.0 x.1.1 (rw x.1.2 at h)
