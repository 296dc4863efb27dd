-- D6: the box's test of the addresses holds exactly where the paper's drop does not. Assumes nothing.
use mathlib.Core.Path.{◌≡◌, refl, sym, ap, ◌∙◌}
use mathlib.Core.Bool.{Bool, true, false, not, ◌&&◌, false≢true, true≢false}
use mathlib.Core.Logic.{⊎_elim, ◌⊎◌, inl, inr}
use borrow.Author.Tests.{eqb-true, eq-eqb, not-true, not-false}
use Rattle.base_laws.specs.Lists.{same}
use Rattle.base_laws.proofs.Meanings.{same_is}
use Rattle.base_laws.proofs.Tests.{known as if-known, split, join, either_true}
use Rattle.frame_opcodes.specs.Opcodes.{rule_of}
use Rattle.frame_head.specs.Head.{destination_of, source_of}
use Rattle.frame_multicast.specs.Multicast.{multicast_of}
use Rattle.state_settings.specs.Valid.{group_bit}
use Rattle.state_view.specs.State.{State}
use Rattle.receive_for_us.specs.Ours.{has_group_bit, good_destination, good_source, for_us}
use Rattle.receive_decide.specs.Decide.{is_ours}
use Rattle.paper_said.specs.Calls.{Arrival}
use Rattle.paper_said.specs.Cases.{opcode, level}
use Rattle.paper_said.specs.Drops.{GoodDestination, own, group, D6, destination, group_source, stranger}
use Rattle.paper_said.proofs.Rows.{multicast_yes, multicast_only, request_yes, request_only, losspeer-yes, losspeer-only}

-- a test that is not true is false
untrue : (b : Bool) → (b ≡ true → ⊥) → b ≡ false
untrue true n = absurd (n refl)
untrue false n = refl

-- two tests, one of which fails
either-fails : (a b : Bool) → (a && b) ≡ false → (a ≡ false) ⊎ (b ≡ false)
either-fails false b e = inl refl
either-fails true b e = inr e

module _ (s : State) (a : Arrival) where
  abbrev to : Bool
  to = good_destination s.settings.own (rule_of (opcode a)).multicast (level a) (destination_of a.octets)

  abbrev from : Bool
  from = good_source s.settings.losspeer (rule_of (opcode a)).losspeer (rule_of (opcode a)).request (source_of a.octets)

  to-good : GoodDestination s a → to ≡ true
  to-good (own e) =
      (either_true (same (destination_of a.octets) s.settings.own)
      ((rule_of (opcode a)).multicast && same (destination_of a.octets) (multicast_of (level a)))).1
      (inl ((same_is (destination_of a.octets) s.settings.own).1 e))
  to-good (group o e) =
      (either_true (same (destination_of a.octets) s.settings.own)
      ((rule_of (opcode a)).multicast && same (destination_of a.octets) (multicast_of (level a)))).1
      (inr (join _ _ (multicast_yes (opcode a) o) ((same_is (destination_of a.octets) (multicast_of (level a))).1 e)))

  good-to : to ≡ true → GoodDestination s a
  good-to e =
      ⊎_elim
      (λ (t : same (destination_of a.octets) s.settings.own ≡ true). own
      ((same_is (destination_of a.octets) s.settings.own).0 t))
      (λ (t : ((rule_of (opcode a)).multicast && same (destination_of a.octets) (multicast_of (level a))) ≡ true).
      let p = split _ _ t in
      group (multicast_only (opcode a) p.0) ((same_is (destination_of a.octets) (multicast_of (level a))).0 p.1))
      ((either_true (same (destination_of a.octets) s.settings.own)
      ((rule_of (opcode a)).multicast && same (destination_of a.octets) (multicast_of (level a)))).0 e)

  -- what holds a source back
  source_bad : from ≡ false → D6 s a
  source_bad e =
      ⊎_elim
      (λ (t : not ((rule_of (opcode a)).request && has_group_bit (source_of a.octets)) ≡ false).
      let p = split _ _ (not-false _ t) in
      group_source (request_only (opcode a) p.0) (eqb-true (group_bit (source_of a.octets)) 1 p.1))
      (λ (t : not ((rule_of (opcode a)).losspeer && not (same (source_of a.octets) s.settings.losspeer)) ≡ false).
      let p = split _ _ (not-false _ t) in
      stranger (losspeer-only (opcode a) p.0) (λ h. true≢false
      (sym ((same_is (source_of a.octets) s.settings.losspeer).1 h) ∙ not-true _ p.1)))
      (either-fails _ _ e)

  pub ours-yes : (D6 s a → ⊥) → is_ours s.settings.own s.settings.losspeer a.octets ≡ true
  unfolding for_us
  ours-yes n =
      join to from
      (⊎_elim (λ (t : to ≡ true). t) (λ (t : to ≡ false). absurd (n (destination (λ g. true≢false (sym (to-good g) ∙ t))))) (if-known to))
      (⊎_elim (λ (t : from ≡ true). t) (λ (t : from ≡ false). absurd (n (source_bad t))) (if-known from))

  -- what a drop holds against the two tests
  held : D6 s a → to ≡ true → from ≡ true → ⊥
  held (destination n) t u = n (good-to t)
  held (group_source o g) t u =
      let p = split (not ((rule_of (opcode a)).request && has_group_bit (source_of a.octets)))
      (not ((rule_of (opcode a)).losspeer && not (same (source_of a.octets) s.settings.losspeer))) u in
      false≢true (sym (not-true _ p.0) ∙ join (rule_of (opcode a)).request (has_group_bit (source_of a.octets))
      (request_yes (opcode a) o) (eq-eqb (group_bit (source_of a.octets)) 1 g))
  held (stranger o n) t u =
      let p = split (not ((rule_of (opcode a)).request && has_group_bit (source_of a.octets)))
      (not ((rule_of (opcode a)).losspeer && not (same (source_of a.octets) s.settings.losspeer))) u in
      false≢true (sym (not-true _ p.1) ∙ join (rule_of (opcode a)).losspeer (not (same (source_of a.octets) s.settings.losspeer))
      (losspeer-yes (opcode a) o) (ap not (untrue (same (source_of a.octets) s.settings.losspeer)
      (λ e. n ((same_is (source_of a.octets) s.settings.losspeer).0 e)))))

  pub ours-no : D6 s a → is_ours s.settings.own s.settings.losspeer a.octets ≡ false
  unfolding for_us
  ours-no d = untrue (to && from) (λ e. let p = split to from e in held d p.0 p.1)

  -- and back: what the box takes as ours is not D6, what it does not is
  pub ours_then : is_ours s.settings.own s.settings.losspeer a.octets ≡ true → D6 s a → ⊥
  ours_then e d = true≢false (sym e ∙ ours-no d)

  pub not-ours_then : is_ours s.settings.own s.settings.losspeer a.octets ≡ false → D6 s a
  unfolding for_us
  not-ours_then e =
      ⊎_elim
      (λ (t : to ≡ false). destination (λ g. true≢false (sym (to-good g) ∙ t)))
      (λ (t : from ≡ false). source_bad t)
      (either-fails to from e)
