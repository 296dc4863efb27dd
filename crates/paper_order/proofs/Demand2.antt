-- Demand 2, of every box that follows the paper: what it sends reads back. Assumes nothing.
use Prim.Native.Nat.{ℕ, ◌≤◌}
use mathlib.Core.Path.{◌≡◌, refl, sym, ap, ◌∙◌}
use mathlib.Core.List.{List}
use lib.ListN.{length}
use Rattle.base_laws.specs.Lists.{part}
use Rattle.state_view.specs.State.{State}
use Rattle.paper_said.specs.Calls.{Arrival, Call, frame, tick, send_LMM, send_DMM, written, Outcome, OnWire, Box}
use Rattle.paper_said.specs.Cases.{OwnLevel}
use Rattle.paper_said.specs.Drops.{Sound}
use Rattle.paper_said.specs.Made.{Reply}
use Rattle.paper_said.specs.Handling.{rule_6}
use Rattle.paper_said.specs.Said.{by_rules_5_to_8}
use Rattle.paper_said.specs.Ours.{Follows}
use Rattle.paper_promised.proofs.Promised.{promises}
use Rattle.paper_order.specs.Demand2.{InMemory, ReplyBack, Demand2}
use Rattle.paper_order.proofs.Memory.{in_memory}
use Rattle.paper_order.proofs.Sent.{in_front, ccm-of, lmm-of, dmm-of, reply-of}

module _ (B : Box) (f : Follows B) where
  -- the box leaves what the paper says
  left : (s : State) (c : Call) (wire : OnWire c) → B s c ≡ (promises.says s c wire).0
  left s c wire = f.follows s c (promises.says s c wire).0 wire (promises.says s c wire).1

  reply : (s : State) (a : Arrival) (octets : List ℕ) → InMemory s → OnWire (frame a) → OwnLevel s a → Sound s a → Reply s a octets
      → length octets ≤ length a.buffer
      → ((B s (frame a)).answer ≡ written (length octets)) × ReplyBack s a (part 0 (length octets) (B s (frame a)).buffer)
  reply s a octets m wire w q r h =
      let l = f.follows s (frame a) _ wire (by_rules_5_to_8 (rule_6 a octets w q r h)) in
      let there = in_front (length octets) octets a.buffer refl h in
      rw l (refl, rw there (reply-of s a octets m wire w q r))

  pub demand_2 : Demand2 B
  demand_2 = record {
    follows = f;
    in_memory = in_memory B f;
    ccm = λ s b n m e.
        let w = promises.says s (tick b) tt in
        let l = left s (tick b) tt in
        rw l (ccm-of s m w.1 (ap (λ (o : Outcome). o.answer) (sym l) ∙ e));
    lmm = λ s b n m e.
        let w = promises.says s (send_LMM b) tt in
        let l = left s (send_LMM b) tt in
        rw l (lmm-of s m w.1 (ap (λ (o : Outcome). o.answer) (sym l) ∙ e));
    dmm = λ s t b n m wire e.
        let w = promises.says s (send_DMM t b) wire in
        let l = left s (send_DMM t b) wire in
        rw l (dmm-of s m wire w.1 (ap (λ (o : Outcome). o.answer) (sym l) ∙ e));
    reply = reply;
  }
