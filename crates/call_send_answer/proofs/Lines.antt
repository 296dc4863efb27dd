-- Each answer of a call that sends exactly where its line holds and none before it, whatever the lines. Assumes nothing.
use Prim.Native.Nat.{ℕ, ◌≤◌, ◌<◌}
use mathlib.Core.Path.{◌≡◌, sym, ap, ◌∙◌}
use mathlib.Core.Bool.{Bool, true, false, not, cond, ◌&&◌, false≢true}
use mathlib.Core.List.{List, [], ◌∷◌}
use mathlib.Core.Logic.{◌↔◌, ⊎_elim}
use lib.Dec.{ltb, eqb}
use lib.ListN.{length}
use borrow.Author.Tests.{ltb-true, ltb-false, lt-ltb, le-ltb, eqb-false, not-true, not-false}
use Rattle.base_laws.specs.Tests.{choose}
use Rattle.base_laws.proofs.Tests.{known, split, choose-none}
use Rattle.state_view.specs.State.{State}
use Rattle.state_view.specs.WellFormed.{WellFormed, well_formed}
use Rattle.state_view.proofs.Rules.{well_formed_is}
use Rattle.message_parts.specs.declared.parts.WrittenTold.{WrittenTold}
use Rattle.call_send_answer.proofs.Sender.{holds, passes, so}

-- a line of the paper and its test
pub record Line (t : Bool) (Holds Fails : Type 0) : Type 0 where
  pub yes : (t ≡ true) ↔ Holds
  pub no : (t ≡ false) ↔ Fails

pub room : (buffer : List ℕ) (n : ℕ) → Line (ltb (length buffer) n) (length buffer < n) (n ≤ length buffer)
room buffer n = record {
  yes = (ltb-true (length buffer) n, lt-ltb (length buffer) n);
  no = (ltb-false (length buffer) n, le-ltb (length buffer) n);
}

-- the line of refusal 2
pub well : (s : State) → Line (not (well_formed s)) (WellFormed s → ⊥) (WellFormed s)
well s =
    let w = well_formed_is.well_formed_is s in
    record {
      yes = (λ h k. false≢true (sym (not-true (well_formed s) h) ∙ w.1 k), bad);
      no = (λ h. w.0 (not-false (well_formed s) h), λ k. ap not (w.1 k));
    }
  where
    bad : (WellFormed s → ⊥) → not (well_formed s) ≡ true
    bad n = ⊎_elim (λ t. absurd (n ((well_formed_is.well_formed_is s).0 t))) (λ f. ap not f) (known (well_formed s))

-- ── which of them decides ──

-- no rule is told as refusal n
unfoldable pub apart : {A : Type 0} → (A → WrittenTold) → ℕ → List (Bool × A) → Bool
apart tell n [] = true
apart tell n (rule ∷ rules) = not (eqb (tell rule.1).refusal n) && apart tell n rules

module _ {A : Type 0} (tell : A → WrittenTold) (n : ℕ) (a : A) (rules : List (Bool × A)) (b : Bool)
    (h : apart tell n ((b, a) ∷ rules) ≡ true) where
  pub differs : (tell a).refusal ≡ n → ⊥
  unfolding apart
  differs = eqb-false (tell a).refusal n (not-true _ (split (not (eqb (tell a).refusal n)) (apart tell n rules) h).0)

  pub behind : apart tell n rules ≡ true
  unfolding apart
  behind = (split (not (eqb (tell a).refusal n)) (apart tell n rules) h).1

-- a is the answer of the chain exactly where P holds; answers are told apart by the refusal
pub record Exactly {A : Type 0} (tell : A → WrittenTold) (rules : List (Bool × A)) (otherwise a : A) (P : Type 0) : Type 0 where
  pub is : (choose rules otherwise ≡ a) ↔ P

module _ {A : Type 0} (tell : A → WrittenTold) where
  another : (n : ℕ) (z : A) (rules : List (Bool × A)) → ((tell z).refusal ≡ n → ⊥) → apart tell n rules ≡ true
      → (tell (choose rules z)).refusal ≡ n → ⊥
  unfolding choose
  another n z [] d h = d
  another n z (rule ∷ rules) d h =
      by rule.0 (differs tell n rule.1 rules rule.0 h) (another n z rules d (behind tell n rule.1 rules rule.0 h))
    where
      by : (b : Bool) → ((tell rule.1).refusal ≡ n → ⊥) → ((tell (choose rules z)).refusal ≡ n → ⊥)
          → (tell (cond b rule.1 (choose rules z))).refusal ≡ n → ⊥
      by true k m = k
      by false k m = m

module _ {A : Type 0} {tell : A → WrittenTold} where
  -- the first line decides; one behind it does, where the first does not hold; or none does
  pub first : {t : Bool} {x z : A} {rules : List (Bool × A)} {P Q : Type 0}
      → Line t P Q → apart tell (tell x).refusal ((true, z) ∷ rules) ≡ true → Exactly tell ((t, x) ∷ rules) z x P
  first {t} {x} {z} {rules} l h =
      let n = (tell x).refusal in
      let not-x = another tell n z rules (differs tell n z rules true h) (behind tell n z rules true h) in
      record {
        is = (
          λ e. ⊎_elim l.yes.0 (λ f. absurd (not-x (ap (λ a. (tell a).refusal) (sym (passes f so).is ∙ e)))) (known t),
          λ p. (holds (l.yes.1 p)).is,
        );
      }

  pub later : {t : Bool} {x z a : A} {rules : List (Bool × A)} {P Q R : Type 0}
      → Line t P Q → eqb (tell x).refusal (tell a).refusal ≡ false → Exactly tell rules z a R → Exactly tell ((t, x) ∷ rules) z a (Q × R)
  later {t} {x} {a = a} l h k = record {
    is = (
      λ e. ⊎_elim
          (λ f. absurd (eqb-false (tell x).refusal (tell a).refusal h (ap (λ a. (tell a).refusal) (sym (holds f).is ∙ e))))
          (λ f. (l.no.0 f, k.is.0 (sym (passes f so).is ∙ e)))
          (known t),
      λ p. (passes (l.no.1 p.0) (record { is = k.is.1 p.1 })).is,
    );
  }

  pub last : {t : Bool} {x z : A} {P Q : Type 0} → Line t P Q → eqb (tell x).refusal (tell z).refusal ≡ false
      → Exactly tell ((t, x) ∷ []) z z Q
  last {t} {x} {z} l h = record {
    is = (
      λ e. ⊎_elim
          (λ f. absurd (eqb-false (tell x).refusal (tell z).refusal h (ap (λ a. (tell a).refusal) (sym (holds f).is ∙ e))))
          l.no.0
          (known t),
      λ p. (passes (l.no.1 p) (record { is = choose-none z })).is,
    );
  }

-- three facts, two of them held together or not
pub flat : {X A B C : Type 0} → X ↔ (A × (B × C)) → X ↔ (A × B × C)
flat e = (λ x. let h = e.0 x in (h.0, h.1.0, h.1.1), λ h. e.1 (h.0, (h.1, h.2)))
