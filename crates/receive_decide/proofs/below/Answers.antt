-- A good CCM for us, or not. Assumes nothing.
use mathlib.Core.Path.{◌≡◌, refl, sym, ap, ap₂, ◌∙◌}
use mathlib.Core.Bool.{Bool, true, false, ◌&&◌, cond}
use mathlib.Core.List.{List}
use native.Mathlib.Omega.{arith}
use Prim.Native.Nat.{ℕ, ◌≤◌}
use lib.Dec.{eqb}
use lib.ListN.{length, take}
use lib.Seq.{length-take-le}
use borrow.Author.Tests.{eqb-true, le-ltb}
use Rattle.base_laws.specs.Lists.{part}
use Rattle.base_laws.specs.Tests.{choose}
use Rattle.state_settings.specs.Settings.{name_octets, address_octets, own_named, losspeer_named}
use Rattle.frame_opcodes.specs.Opcodes.{rule_of}
use Rattle.frame_head.specs.Head.{destination_of, pdu_of, level_of, opcode_of}
use Rattle.frame_head.specs.Addresses.{in_head}
use Rattle.frame_message.specs.Told.{good_opcode}
use Rattle.frame_message.proofs.Numbers.{only}
use Rattle.receive_for_us.specs.Ours.{good_destination, for_us}
use Rattle.receive_answer.specs.declared.Drop.TheVariants as drop
use Rattle.receive_change.specs.declared.Change.TheVariants as change
use Rattle.receive_handle.specs.declared.Decision.TheVariants.{Drops, Changes}
use Rattle.receive_decide.specs.Decide.{is_ours, below_of}
use borrow.Author.Rules.{rules}
use Rattle.receive_decide.proofs.below.Goals as goal

-- by the row of a CCM the destination alone decides

and-true : (b : Bool) → (b && true) ≡ b
and-true true = refl
and-true false = refl

by_row : (own losspeer f : List ℕ) → opcode_of (pdu_of f) ≡ 1 → is_ours own losspeer f ≡ good_destination own true (level_of (pdu_of f)) (destination_of f)
unfolding for_us rule_of choose
by_row own losspeer f e = rw e (and-true (good_destination own true (level_of (pdu_of f)) (destination_of f)))

-- both tests together are the definition's

module _ (own losspeer f : List ℕ) where
  alike : (b : Bool) → eqb (good_opcode f) 1 ≡ b
      → (b && good_destination own true (level_of (pdu_of f)) (destination_of f)) ≡ (b && is_ours own losspeer f)
  alike false e = refl
  alike true e =
      let is : good_opcode f ≡ 1 = eqb-true (good_opcode f) 1 e in
      let m = only f (λ z. let y : ◌≡◌ {A = ℕ} 1 0 = sym is ∙ z in omega arith) in
      sym (by_row own losspeer f (sym m.1 ∙ is))

  -- as the code finds them
  decided : (opcode : ℕ) (ours : Bool) → opcode ≡ good_opcode f → ours ≡ good_destination own true (level_of (pdu_of f)) (destination_of f)
      → cond (eqb opcode 1 && ours) (Changes change.UnexpectedLevel) (Drops drop.Level) ≡ below_of own losspeer f
  unfolding below_of
  decided opcode ours e h =
      ap (λ (b : Bool). cond b (Changes change.UnexpectedLevel) (Drops drop.Level))
      (ap₂ (λ (n : ℕ) (b : Bool). eqb n 1 && b) e h ∙ alike (eqb (good_opcode f) 1) refl)

-- what was found is what the definition looks at

to_is : (names f to : List ℕ) (l : ℕ) → to ≡ in_head (destination_of f) f → l ≡ level_of (pdu_of f) → 14 ≤ length f
    → good_destination (take address_octets names) true l to ≡ good_destination (own_named names) true (level_of (pdu_of f)) (destination_of f)
unfolding part
to_is names f to l h n long = rw (h, n, le-ltb (length f) 14 long)

pub slice_bounds-good_destination-end : goal.slice_bounds-good_destination-end
slice_bounds-good_destination-end c = let n = c.args.names.now in
    let h : length n ≡ name_octets = search rules in
    sym (length-take-le address_octets n (omega arith))

-- so the code decides, whatever its test gave
is : (names f to : List ℕ) (l opcode : ℕ) (ours : Bool) → to ≡ in_head (destination_of f) f → l ≡ level_of (pdu_of f) → 14 ≤ length f
    → opcode ≡ good_opcode f → ours ≡ good_destination (take address_octets names) true l to → (b : Bool) → (eqb opcode 1 && ours) ≡ b
    → cond b (Changes change.UnexpectedLevel) (Drops drop.Level) ≡ below_of (own_named names) (losspeer_named names) f
is names f to l opcode ours h n long o u b e =
    ap (λ (b : Bool). cond b (Changes change.UnexpectedLevel) (Drops drop.Level)) (sym e)
    ∙ decided (own_named names) (losspeer_named names) f opcode ours o (u ∙ to_is names f to l h n long)

pub returns-then-good_opcode-ours : goal.returns-then-good_opcode-ours
returns-then-good_opcode-ours c =
    is c.args.names.now c.args.frame.now _ _ _ _ c.destination-to.ensures.0 c.level.ensures (omega arith) c.good_opcode.ensures
    c.good_destination-ours.ensures true c.if-good_opcode-ours.true

pub returns : goal.returns
returns c =
    is c.args.names.now c.args.frame.now _ _ _ _ c.destination-to.ensures.0 c.level.ensures (omega arith) c.good_opcode.ensures
    c.good_destination-ours.ensures false c.if-good_opcode-ours.false
