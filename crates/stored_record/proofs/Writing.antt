-- How writing a record ends, and the statement of specs/Writing.antt. Assumes nothing.
use Prim.Native.Nat.{ℕ, ◌+◌, ◌≤◌, ◌<◌}
use mathlib.Core.Path.{◌≡◌, refl, sym, ap, ◌∙◌}
use mathlib.Core.List.{List}
use mathlib.Core.Bool.{Bool, true, false, not, ◌||◌, true≢false}
use mathlib.Core.Logic.{◌⊎◌, inl, inr, ⊎_elim}
use lib.Dec.{ltb, eqb}
use lib.ListN.{length}
use borrow.Author.Tests.{ltb-true, ltb-false, lt-ltb, le-ltb, eqb-false, not-true}
use Rattle.std.specs.Prelude.{Result, Ok, Err}
use Rattle.base_laws.specs.Ended.{Wrote, wrote}
use Rattle.base_laws.proofs.Ended.{answer-is, buffer-is}
use Rattle.base_laws.specs.Tests.{choose}
use Rattle.base_laws.specs.Lists.{laid}
use Rattle.base_laws.proofs.Tests.{known, either_true, choose-map}
use Rattle.stored_record.specs.declared.RecordRefusal.{RecordRefusal}
use Rattle.stored_record.specs.declared.RecordRefusal.TheVariants.{BreaksRule, NoRoom}
use Rattle.stored_record.specs.Record.{record_of}
use Rattle.stored_record.specs.Writing.{write_record, record_told, record_numbers, Writes}

-- the first test
abbrev breaks : Bool → List ℕ → Bool
breaks good body = not good || ltb 65533 (length body)

module _ (good : Bool) (body : List ℕ) where
  broken : breaks good body ≡ true → (good ≡ false) ⊎ (65533 < length body)
  broken h = ⊎_elim (λ a. inl (not-true good a)) (λ b. inr (ltb-true _ _ b)) ((either_true (not good) (ltb 65533 (length body))).0 h)

  breaking : (good ≡ false) ⊎ (65533 < length body) → breaks good body ≡ true
  breaking h = (either_true (not good) (ltb 65533 (length body))).1 (⊎_elim (λ a. inl (ap not a)) (λ b. inr (lt-ltb _ _ b)) h)

  kept : good ≡ true → length body ≤ 65533 → breaks good body ≡ false
  kept g h = rw (g, le-ltb 65533 (length body) h)

  keeps : breaks good body ≡ false → (good ≡ true) × (length body ≤ 65533)
  keeps h =
      ⊎_elim (λ g. (g, ⊎_elim (λ b. absurd (clash (inr (ltb-true _ _ b)))) (λ b. ltb-false _ _ b) (known (ltb 65533 (length body)))))
      (λ g. absurd (clash (inl g))) (known good)
    where
      clash : (good ≡ false) ⊎ (65533 < length body) → ⊥
      clash w = true≢false (sym (breaking w) ∙ h)

-- what the code has found out
pub fits : (good : Bool) (body : List ℕ) → breaks good body ≡ false → length body ≤ 65533
fits good body h = (keeps good body h).1

-- ── one law for each way ──

module _ (good : Bool) (kind : ℕ) (body buffer : List ℕ) where
  abbrev o : Wrote (Result ℕ RecordRefusal)
  o = write_record good kind body buffer

  pub agree : record_told o.answer ≡ record_numbers good body buffer
  unfolding write_record record_told record_numbers
  agree = choose-map (λ (t : Wrote (Result ℕ RecordRefusal)). record_told t.answer) _ _

  -- r and y are the outcome, and r is told by its numbers
  abbrev pub Outcome : Result ℕ RecordRefusal → List ℕ → Type 0
  Outcome r y = (wrote r y ≡ o) × (record_told r ≡ record_numbers good body buffer)

  told_so : {r : Result ℕ RecordRefusal} {y : List ℕ} → wrote r y ≡ o → Outcome r y
  told_so e = (e, ap (λ (t : Wrote (Result ℕ RecordRefusal)). record_told t.answer) e ∙ agree)

  ended_4 : breaks good body ≡ true → wrote (Err BreaksRule) buffer ≡ o
  unfolding write_record choose
  ended_4 h = rw h

  pub ends_4 : breaks good body ≡ true → Outcome (Err BreaksRule) buffer
  ends_4 h = told_so (ended_4 h)

  module _ (k : breaks good body ≡ false) where
    ended_3 : length buffer < 4 + length body → wrote (Err NoRoom) buffer ≡ o
    unfolding write_record choose
    ended_3 h = rw (k, lt-ltb (length buffer) (4 + length body) h)

    ended-written : {after : List ℕ} → 4 + length body ≤ length buffer → after ≡ laid 0 (record_of kind body) buffer
        → wrote (Ok (4 + length body)) after ≡ o
    unfolding write_record choose
    ended-written h e = rw (k, le-ltb (length buffer) (4 + length body) h, e)

    pub ends_3 : length buffer < 4 + length body → Outcome (Err NoRoom) buffer
    ends_3 h = told_so (ended_3 h)

    pub ends-written : {after : List ℕ} → 4 + length body ≤ length buffer → after ≡ laid 0 (record_of kind body) buffer
        → Outcome (Ok (4 + length body)) after
    ends-written h e = told_so (ended-written h e)

-- ── the statement ──

-- answers told by different numbers differ
apart : {r r' : Result ℕ RecordRefusal} → r ≡ r' → eqb (record_told r).refusal (record_told r').refusal ≡ false → ⊥
apart {r} {r'} e h = eqb-false (record_told r).refusal (record_told r').refusal h (ap (λ (t : Result ℕ RecordRefusal). (record_told t).refusal) e)

module _ (good : Bool) (kind : ℕ) (body buffer : List ℕ) where
  -- how it may end, with what is known then
  data Way : Type 0 where
    way_4 : breaks good body ≡ true → Way
    way_3 : breaks good body ≡ false → length buffer < 4 + length body → Way
    way_0 : breaks good body ≡ false → 4 + length body ≤ length buffer → Way

  way : Way
  way =
      ⊎_elim
      way_4
      (λ k. ⊎_elim (λ h. way_3 k (ltb-true _ _ h)) (λ h. way_0 k (ltb-false _ _ h)) (known (ltb (length buffer) (4 + length body))))
      (known (breaks good body))

  at_4 : breaks good body ≡ true → (write_record good kind body buffer).answer ≡ Err BreaksRule
  at_4 h = answer-is (sym (ended_4 good kind body buffer h))

  at_3 : breaks good body ≡ false → length buffer < 4 + length body → (write_record good kind body buffer).answer ≡ Err NoRoom
  at_3 k h = answer-is (sym (ended_3 good kind body buffer k h))

  at_0 : breaks good body ≡ false → 4 + length body ≤ length buffer → (write_record good kind body buffer).answer ≡ Ok (4 + length body)
  at_0 k h = answer-is (sym (ended-written good kind body buffer k h refl))

  only_4 : Way → (write_record good kind body buffer).answer ≡ Err BreaksRule → (good ≡ false) ⊎ (65533 < length body)
  unfolding record_told
  only_4 (way_4 h) e = broken good body h
  only_4 (way_3 k h) e = absurd (apart (sym (at_3 k h) ∙ e) refl)
  only_4 (way_0 k h) e = absurd (apart (sym (at_0 k h) ∙ e) refl)

  only_3 : Way → (write_record good kind body buffer).answer ≡ Err NoRoom → (good ≡ true) × (length body ≤ 65533)
      × (length buffer < 4 + length body)
  unfolding record_told
  only_3 (way_4 h) e = absurd (apart (sym (at_4 h) ∙ e) refl)
  only_3 (way_3 k h) e = ((keeps good body k).0, (keeps good body k).1, h)
  only_3 (way_0 k h) e = absurd (apart (sym (at_0 k h) ∙ e) refl)

  untouched : Way → ((record_told (write_record good kind body buffer).answer).refusal ≡ 0 → ⊥)
      → (write_record good kind body buffer).buffer ≡ buffer
  unfolding record_told
  untouched (way_4 h) n = buffer-is (sym (ended_4 good kind body buffer h))
  untouched (way_3 k h) n = buffer-is (sym (ended_3 good kind body buffer k h))
  untouched (way_0 k h) n = absurd (n (ap (λ (r : Result ℕ RecordRefusal). (record_told r).refusal) (at_0 k h)))

zeros : (answer : Result ℕ RecordRefusal) → ((record_told answer).refusal ≡ 0 → ⊥) → (record_told answer).length ≡ 0
unfolding record_told
zeros (Err BreaksRule) n = refl
zeros (Err NoRoom) n = refl
zeros (Ok k) n = absurd (n refl)

pub writing : Writes
writing = record {
  refuses_4 = λ good kind body buffer. (
    only_4 good kind body buffer (way good kind body buffer),
    λ h. at_4 good kind body buffer (breaking good body h),
  );
  refuses_3 = λ good kind body buffer. (
    only_3 good kind body buffer (way good kind body buffer),
    λ h. at_3 good kind body buffer (kept good body h.0 h.1) h.2,
  );
  refused = λ good kind body buffer. untouched good kind body buffer (way good kind body buffer);
  writes = λ kind body buffer h k. sym (ended-written true kind body buffer (kept true body refl h) k refl);
  agree = agree;
  zeros = zeros;
}
