-- Which event a frame is: a reply, one received, one sent, or no other than itself. Assumes nothing.
use Prim.Native.Nat.{ℕ, ◌≤◌}
use mathlib.Core.Path.{◌≡◌, sym, ◌∙◌}
use mathlib.Core.Bool.{true≢false}
use mathlib.Core.Logic.{⊎_elim}
use lib.Dec.{leb, eqb}
use lib.ListN.{length}
use native.Mathlib.Omega.{arith}
use borrow.Author.Tests.{leb-true, leb-false, eqb-true, eqb-false}
use Rattle.state_view.specs.State.{State}
use Rattle.state_view.specs.WellFormed.{well_formed}
use Rattle.state_view.proofs.Rules.{well_formed_is}
use Rattle.frame_head.specs.Head.{ether_type_of}
use Rattle.paper_said.specs.Calls as call
use Rattle.paper_said.specs.Calls.{active, passive, Arrival, FromWire}
use Rattle.paper_said.specs.Cases.{Heeded, Counted}
use Rattle.paper_said.specs.Taken.{LossReply}
use Rattle.paper_promised.proofs.Promised.{promises}
use Rattle.paper_loss.specs.Runs.{Event, reply, received, sent, other, Neither, Is, is_reply, is_received, is_sent, is_other}
use Rattle.paper_said.proofs.Something.{split, either}
use Rattle.paper_loss.proofs.Lossy.{lossy, reply-lossy, lossy-reply}

-- ── which frame is counted ──

at_most : {X : Type 0} (n m : ℕ) → (n ≤ m → X) → ((n ≤ m → ⊥) → X) → X
at_most n m then otherwise =
    split (leb n m) (λ t. then (leb-true n m t)) (λ t. let k = leb-false n m t in otherwise (λ h. omega (arith, k, h)))

module _ (s : State) (a : Arrival) where
  by_heed : {X : Type 0} → (Heeded s a → X) → ((Heeded s a → ⊥) → X) → X
  by_heed then otherwise =
      split (well_formed s)
      (λ t.
      let w = (well_formed_is.well_formed_is s).0 t in
      at_most 14 (length a.octets)
      (λ least.
      at_most (length a.octets) 1514
      (λ most.
      at_most a.receive.nanoseconds 999999999
      (λ receive.
      at_most a.transmit.nanoseconds 999999999
      (λ transmit. then (record { well = w; long = record { least = least; most = most }; receive = receive; transmit = transmit }))
      (λ n. otherwise (λ h. n h.transmit)))
      (λ n. otherwise (λ h. n h.receive)))
      (λ n. otherwise (λ h. n h.long.most)))
      (λ n. otherwise (λ h. n h.long.least)))
      (λ t. otherwise (λ h. true≢false (sym ((well_formed_is.well_formed_is s).1 h.well) ∙ t)))

  nothing-more : Neither s a → Is s (call.frame a) other
  nothing-more n = is_other (call.frame a) (λ b q. let e : a ≡ b = cc in rw (← e) n)

  -- not a good loss reply: counted, or nothing
  counted-or-not : (LossReply s a → ⊥) → (e : Event) × Is s (call.frame a) e
  counted-or-not n =
      by_heed
      (λ h.
      split (eqb (ether_type_of a.octets) 0x8902)
      (λ t.
      let e = eqb-true (ether_type_of a.octets) 0x8902 t in
      (other, nothing-more (record { reply = n; received = λ c. c.service e; sent = λ c. c.service e })))
      (λ t.
      let k : Counted a = eqb-false (ether_type_of a.octets) 0x8902 t in
      ⊎_elim
      (λ (d : a.side ≡ active). (received, is_received a (record { heeded = h; service = k; from = d })))
      (λ (d : a.side ≡ passive). (sent, is_sent a (record { heeded = h; service = k; from = d })))
      (either a.side)))
      (λ x. (other, nothing-more (record { reply = n; received = λ c. x c.heeded; sent = λ c. x c.heeded })))

  pub of-frame : FromWire a → (e : Event) × Is s (call.frame a) e
  of-frame u =
      let p = promises.says s (call.frame a) u in
      split (lossy p.0.answer)
      (λ t. (_, is_reply a (lossy-reply p.1 t)))
      (λ t. counted-or-not (λ l. true≢false (sym (reply-lossy s a p.0 u l p.1) ∙ t)))
