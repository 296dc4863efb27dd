-- The statement of specs/OneLook.antt: test by test, what the reader says of the frame is what the PDU says. Assumes nothing.
use Prim.Native.Nat.{ℕ, ◌+◌, ◌≤◌}
use mathlib.Core.Path.{◌≡◌, refl, sym, ap, ◌∙◌}
use mathlib.Core.Bool.{Bool, true, false, cond, not}
use mathlib.Core.List.{List}
use mathlib.Core.Logic.{⊎_elim}
use native.Mathlib.Omega.{arith}
use lib.Dec.{ltb}
use lib.ListN.{length, length-drop}
use borrow.Author.Tests.{ltb-true, ltb-false, not-true, not-false}
use Rattle.std.specs.Prelude.{Result, Ok, Err}
use Rattle.frame_message_answer.specs.declared.NoMessage.{NoMessage}
use Rattle.frame_message_answer.specs.declared.NoMessage.TheVariants as message
use Rattle.base_laws.specs.Tests.{choose}
use Rattle.base_laws.proofs.Tests.{known}
use Rattle.base_stamp.specs.declared.Stamp.{Stamp}
use Rattle.state_settings.specs.Settings.{Settings}
use Rattle.frame_reader_answer.specs.declared.Bad.TheVariants.{Length, Offset, CutOff}
use Rattle.frame_head.specs.Head.{is_oam, length_good, oam_frame, pdu_of, opcode_of, flags_of, offset_of, start_of}
use Rattle.frame_head.proofs.Heads.{oam-is}
use Rattle.frame_opcodes.specs.Opcodes.{rule_of}
use Rattle.frame_opcodes.proofs.Rules.{handled-known}
use Rattle.frame_tlvs.specs.Tlvs.{walk_from, is_cut, tlvs_whole}
use Rattle.frame_judge.specs.Judge.{judge_pdu}
use Rattle.frame_judge.proofs.Judged.{pdu-offset, pdu-tlvs}
use Rattle.frame_message.specs.Message.{period_code, code_good, judged_of, message_of}
use Rattle.frame_message.proofs.GoodTests.{begins}
use Rattle.frame_message.proofs.InPdu.{bad-head, cut_off, let_through, frame-length, frame-pdu}
use Rattle.receive_answer.specs.declared.Drop.{Drop}
use Rattle.receive_handle.specs.declared.Decision.{Decision}
use Rattle.receive_decide.specs.Decide.{is_ours, drop_for, answered_of, own_of}
use Rattle.receive_decide.specs.OneLook.{look_at, by_look, OneLook}

module _ (t : Settings) (f : List ℕ) (receive : Stamp) where
  abbrev p : List ℕ
  p = pdu_of f

  -- what the one look makes of it
  abbrev looked : Decision
  looked = by_look t f receive (look_at t.own t.losspeer f)

  not-handled : (rule_of (opcode_of p)).handled ≡ false → own_of t f receive ≡ looked
  unfolding own_of look_at by_look choose
  not-handled h = rw h

  module _ (h : (rule_of (opcode_of p)).handled ≡ true) where
    reached : (m : Result ℕ NoMessage) → message_of f ≡ m → own_of t f receive ≡ answered_of t f receive m
    unfolding own_of
    reached m e = rw (h, e)

    too_long : length_good f ≡ false → own_of t f receive ≡ looked
    unfolding answered_of drop_for look_at by_look choose
    too_long l = reached (Err (message.Bad Length)) (frame-length f l) ∙ rw (h, l)

    module _ (good : length_good f ≡ true) (oam : is_oam f ≡ true) (long : 4 ≤ length p) where
      low-offset : ltb (offset_of p) (rule_of (opcode_of p)).least ≡ true → own_of t f receive ≡ looked
      unfolding answered_of drop_for look_at by_look choose
      low-offset o =
          reached (Err (message.Bad Offset)) (frame-pdu f good oam
          ∙ bad-head p Offset (pdu-offset p long (handled-known (opcode_of p) h) (ltb-true (offset_of p) (rule_of (opcode_of p)).least o)))
          ∙ rw (h, good, o)

      module _ (o : ltb (offset_of p) (rule_of (opcode_of p)).least ≡ false) where
        starts : judge_pdu p ≡ Ok (start_of p)
        starts = pdu-tlvs p long (handled-known (opcode_of p) h) (ltb-false (offset_of p) (rule_of (opcode_of p)).least o)

        is_cut_lem : tlvs_whole (start_of p) p ≡ false → own_of t f receive ≡ looked
        unfolding answered_of drop_for look_at by_look choose
        is_cut_lem w = reached (Err (message.Bad CutOff)) (frame-pdu f good oam ∙ cut_off p (start_of p) starts w) ∙ rw (h, good, o, w)

        module _ (w : tlvs_whole (start_of p) p ≡ true) where
          -- the reader lets it through: its addresses, then its period code
          judged : own_of t f receive ≡ answered_of t f receive (judged_of (opcode_of p) (flags_of p))
          judged = reached (judged_of (opcode_of p) (flags_of p)) (frame-pdu f good oam ∙ let_through p (start_of p) starts w)

          by_code : (a b : Bool) → code_good (rule_of (opcode_of p)) (period_code (flags_of p)) ≡ a → is_ours t.own t.losspeer f ≡ b
              → answered_of t f receive (judged_of (opcode_of p) (flags_of p)) ≡ looked
          unfolding judged_of answered_of look_at by_look choose
          by_code true true e u = rw (e, u, h, good, o, w)
          by_code true false e u = rw (e, u, h, good, o, w)
          by_code false true e u = rw (e, u, h, good, o, w)
          by_code false false e u = rw (e, u, h, good, o, w)

agrees : (t : Settings) (f : List ℕ) (receive : Stamp) → oam_frame f ≡ true → 18 ≤ length f
    → own_of t f receive ≡ by_look t f receive (look_at t.own t.losspeer f)
agrees t f receive oam long =
    let q : List ℕ = pdu_of f in
    let four : 4 ≤ length q = rw (length-drop 14 f) (omega arith) in
    ⊎_elim
    (λ (h : (rule_of (opcode_of q)).handled ≡ true).
    ⊎_elim
    (λ (g : length_good f ≡ true).
    let is : is_oam f ≡ true = sym (oam-is f g) ∙ oam in
    ⊎_elim
    (λ (o : ltb (offset_of q) (rule_of (opcode_of q)).least ≡ true). low-offset t f receive h g is four o)
    (λ (o : ltb (offset_of q) (rule_of (opcode_of q)).least ≡ false).
    ⊎_elim
    (λ (w : tlvs_whole (start_of q) q ≡ true). judged t f receive h g is four o w ∙ by_code t f receive h g is four o w _ _ refl refl)
    (λ (w : tlvs_whole (start_of q) q ≡ false). is_cut_lem t f receive h g is four o w)
    (known (tlvs_whole (start_of q) q)))
    (known (ltb (offset_of q) (rule_of (opcode_of q)).least)))
    (λ (g : length_good f ≡ false). too_long t f receive h g)
    (known (length_good f)))
    (λ (h : (rule_of (opcode_of q)).handled ≡ false). not-handled t f receive h)
    (known (rule_of (opcode_of q)).handled)

-- a drop is no good frame
no_drop : {d : Drop} → ◌≡◌ {A = Result Unit Drop} (Err d) (Ok tt) → ⊥
no_drop e = let z : ◌≡◌ {A = ℕ} 0 1 = cc in omega arith

-- past a test that would drop it
past : (test : Bool) (d : Drop) (x : Result Unit Drop) → cond test (Err d) x ≡ Ok tt → (test ≡ false) × (x ≡ Ok tt)
past true d x e = absurd (no_drop e)
past false d x e = (refl, e)

whole : (own losspeer f : List ℕ) → look_at own losspeer f ≡ Ok tt → 4 + (rule_of (opcode_of (pdu_of f))).least ≤ length (pdu_of f)
unfolding look_at choose
whole own losspeer f e =
    let q : List ℕ = pdu_of f in
    let h = past (not (rule_of (opcode_of q)).handled) _ _ e in
    let g = past (not (length_good f)) _ _ h.1 in
    let o = past (ltb (offset_of q) (rule_of (opcode_of q)).least) _ _ g.1 in
    let w = past (not (tlvs_whole (start_of q) q)) _ _ o.1 in
    let le = ltb-false (offset_of q) (rule_of (opcode_of q)).least o.0 in
    omega (arith, le, begins (start_of q) q (not-true (is_cut (walk_from 0 (start_of q) q)) (not-false (tlvs_whole (start_of q) q) w.0)))

pub one_look : OneLook
one_look = record { agrees = agrees; whole = whole }
