-- Each arm writes its reply with our own address. Assumes nothing.
use Prim.Native.Nat.{ℕ}
use mathlib.Core.Path.{◌≡◌, ap, ◌∙◌}
use mathlib.Core.List.{List}
use Rattle.std.specs.Prelude.{Result}
use Rattle.state_view.specs.State.{state_lent}
use Rattle.message_lbr.specs.Lbr.{lbr_octets}
use Rattle.message_lmr.specs.Lmr.{lmr_octets}
use Rattle.message_dmr.specs.Dmr.{dmr_octets}
use Rattle.message_reply.specs.declared.ReplyRefusal.{ReplyRefusal}
use Rattle.message_reply.specs.Replied.{replied_of, left_of}
use Rattle.receive_answer.specs.declared.FrameRefusal.{FrameRefusal}
use Rattle.receive_answer.specs.declared.FrameDone.{FrameDone}
use Rattle.receive_respond.specs.Respond.{answer_for, responded_of, left_after}
use Rattle.receive_respond.proofs.respond.Goals as goal

-- one reply, whichever it is: written with our own address, answered by what its writer answered, left as its writer left it

reply : (n : ℕ) (octets : List ℕ → List ℕ) (f buffer : List ℕ) {read own left : List ℕ} {w : Result ℕ ReplyRefusal} {r : Result FrameDone FrameRefusal}
    → r ≡ answer_for w → w ≡ replied_of n f (octets read) buffer → left ≡ left_of n f (octets read) buffer → read ≡ own
    → (r ≡ answer_for (replied_of n f (octets own) buffer)) × (left ≡ left_of n f (octets own) buffer)
reply n octets f buffer e w l o = (
  e ∙ ap answer_for (w ∙ ap (λ (x : List ℕ). replied_of n f (octets x) buffer) o),
  l ∙ ap (λ (x : List ℕ). left_of n f (octets x) buffer) o,
)

pub returns-in-Loopback : goal.returns-in-Loopback
unfolding responded_of left_after
returns-in-Loopback c = let a = c.args in
    let s = state_lent a.state in
    let f = a.frame.now in
    let w = c.write_lbr.ensures in
    rw c.in-Loopback.is
    (let both = reply 4 (λ (own : List ℕ). lbr_octets own f) f a.out.now c.answer_for.ensures w.value.0 w.into_after
    c.own_address-own.ensures in
    record { value = both.0; out_after = both.1 })

pub returns-in-Loss : goal.returns-in-Loss
unfolding responded_of left_after
returns-in-Loss c = let a = c.args in
    let s = state_lent a.state in
    let f = a.frame.now in
    let w = c.write_lmr.ensures in
    rw c.in-Loss.is
    (let both = reply 12 (λ (own : List ℕ). lmr_octets own s.received s.sent f) f a.out.now c.answer_for-in-Loss.ensures w.value.0 w.into_after
    c.own_address-own.ensures in
    record { value = both.0; out_after = both.1 })

pub returns-in-Delay : goal.returns-in-Delay
unfolding responded_of left_after
returns-in-Delay c = let a = c.args in
    let s = state_lent a.state in
    let f = a.frame.now in
    let w = c.write_dmr.ensures in
    rw c.in-Delay.is
    (let both = reply 32 (λ (own : List ℕ). dmr_octets own a.receive a.transmit f) f a.out.now c.answer_for-in-Delay.ensures w.value.0 w.into_after
    c.own_address-own.ensures in
    record { value = both.0; out_after = both.1 })
