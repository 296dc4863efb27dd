-- What is said of a call that sends a message, whatever its state, answers, refusals and octets. Assumes nothing.
use Prim.Native.Nat.{ℕ}
use mathlib.Core.Path.{◌≡◌, refl, sym, ap, ◌∙◌}
use mathlib.Core.Bool.{Bool, true, false, cond}
use mathlib.Core.List.{List, [], ◌∷◌, map}
use mathlib.Core.Logic.{◌↔◌}
use Rattle.base_laws.specs.Ended.{Ended, ended}
use Rattle.base_laws.specs.Tests.{choose}
use Rattle.base_laws.specs.Lists.{laid}
use Rattle.base_laws.proofs.Ended.{answer-is}
use Rattle.message_parts.specs.declared.parts.WrittenTold.{WrittenTold}
use Rattle.call_send_answer.proofs.Lines.{Exactly, apart, differs, behind}

-- a call that sends: its refusals in their order, each with its answer; where none holds the message is laid over the buffer
pub record Sending (S A : Type 0) : Type 0 where
  pub refusals : List (Bool × A)
  pub sent : A
  pub state : S
  pub message : List ℕ
  pub buffer : List ℕ

module _ {S A : Type 0} (s : S) (buffer : List ℕ) (z : Ended S A) where
  abbrev ends : List (Bool × A) → Ended S A
  ends refusals = choose (map (λ r. (r.0, ended r.1 s buffer)) refusals) z

  -- one refusal and those behind it
  one : (P : Ended S A → Type 0) (b : Bool) (a : A) (rest : Ended S A) → P (ended a s buffer) → P rest → P (cond b (ended a s buffer) rest)
  one P true a rest h k = h
  one P false a rest h k = k

  state-kept : (refusals : List (Bool × A)) → z.state ≡ s → (ends refusals).state ≡ s
  unfolding choose
  state-kept [] h = h
  state-kept (r ∷ refusals) h = one (λ t. t.state ≡ s) r.0 r.1 _ refl (state-kept refusals h)

  answers : (refusals : List (Bool × A)) → (ends refusals).answer ≡ choose refusals z.answer
  unfolding choose
  answers [] = refl
  answers (r ∷ refusals) = by r.0 (answers refusals)
    where
      by : (b : Bool) → (ends refusals).answer ≡ choose refusals z.answer
          → (cond b (ended r.1 s buffer) (ends refusals)).answer ≡ cond b r.1 (choose refusals z.answer)
      by true h = refl
      by false h = h

  module _ (tell : A → WrittenTold) where
    untouched : (refusals : List (Bool × A)) → (tell z.answer).refusal ≡ 0 → ((tell (ends refusals).answer).refusal ≡ 0 → ⊥)
        → (ends refusals).buffer ≡ buffer
    unfolding choose
    untouched [] e = λ n. absurd (n e)
    untouched (r ∷ refusals) e =
        one (λ t. ((tell t.answer).refusal ≡ 0 → ⊥) → t.buffer ≡ buffer) r.0 r.1 _ (λ n. refl) (untouched refusals e)

    sent_so : (refusals : List (Bool × A)) → apart tell 0 refusals ≡ true → (tell (ends refusals).answer).refusal ≡ 0 → ends refusals ≡ z
    unfolding choose
    sent_so [] h = λ e. refl
    sent_so (r ∷ refusals) h =
        one (λ t. (tell t.answer).refusal ≡ 0 → t ≡ z) r.0 r.1 _
        (λ e. absurd (differs tell 0 r.1 refusals r.0 h e))
        (sent_so refusals (behind tell 0 r.1 refusals r.0 h))

module _ {S A : Type 0} (tell : A → WrittenTold) (c : Sending S A) where
  abbrev pub whole : Ended S A
  whole = ended c.sent c.state (laid 0 c.message c.buffer)

  abbrev pub end_of : Ended S A
  end_of = ends c.state c.buffer whole c.refusals

  pub said : {a : A} {P : Type 0} → Exactly tell c.refusals c.sent a P → (end_of.answer ≡ a) ↔ P
  said x =
      let e = answers c.state c.buffer whole c.refusals in
      (λ h. x.is.0 (sym e ∙ h), λ p. e ∙ x.is.1 p)

  pub keeps : end_of.state ≡ c.state
  keeps = state-kept c.state c.buffer whole c.refusals refl

  pub refused : (tell c.sent).refusal ≡ 0 → ((tell end_of.answer).refusal ≡ 0 → ⊥) → end_of.buffer ≡ c.buffer
  refused = untouched c.state c.buffer whole tell c.refusals

  pub writes : apart tell 0 c.refusals ≡ true → (tell end_of.answer).refusal ≡ 0 → end_of ≡ whole
  writes = sent_so c.state c.buffer whole tell c.refusals

-- how it ends and how it is told, as a contract says it
pub outcome : {S A : Type 0} (tell : A → WrittenTold) {o : Ended S A} {m : WrittenTold} {r : A} {s : S} {y : List ℕ}
    → tell o.answer ≡ m → o ≡ ended r s y → (ended r s y ≡ o) × (tell r ≡ m)
outcome tell agree e = (sym e, ap tell (sym (answer-is e)) ∙ agree)
