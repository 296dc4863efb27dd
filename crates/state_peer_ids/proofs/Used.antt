-- What a loop over used slots has shown after i turns: each ID so far is good, and no two are alike. Assumes nothing.
use Prim.Native.Nat.{ℕ, ◌+◌, ◌≤◌, ◌<◌}
use mathlib.Core.Path.{◌≡◌, sym, ap, ◌∙◌}
use mathlib.Core.Bool.{true, false, ◌&&◌, and-false, false≢true}
use mathlib.Core.List.{List}
use mathlib.Core.Logic.{⊎_elim}
use native.Mathlib.Omega.{arith}
use lib.Dec.{eqb}
use lib.ListN.{length, get_or, take}
use lib.Seq.{length-take-le, get_or-take}
use borrow.Author.Tests.{eqb-true, eqb-false}
use Rattle.base_laws.specs.Lists.{every, absent, distinct}
use Rattle.base_laws.proofs.Tests.{known, join}
use Rattle.base_laws.proofs.Everywhere.{every_is}
use Rattle.base_laws.proofs.Meanings.{absent_is, distinct_is}
use Rattle.state_peer_ids.specs.Ids.{id_good}

pub record Held (mep : ℕ) (ids : List ℕ) (used i : ℕ) : Type 0 where
  pub low : i ≤ used
  pub good : (k : ℕ) → k < i → id_good mep (get_or ids k 0) ≡ true
  pub apart : (j k : ℕ) → j < k → k < i → get_or ids j 0 ≡ get_or ids k 0 → ⊥

module _ (mep : ℕ) (ids : List ℕ) (used : ℕ) (fits : used ≤ length ids) where
  pub held_start : Held mep ids used 0
  held_start = record { low = omega arith; good = λ k h. absurd (omega arith); apart = λ j k h l e. absurd (omega arith) }

  long : (i : ℕ) → i ≤ used → length (take i ids) ≡ i
  long i h = length-take-le i ids (omega arith)

  -- an ID that stands at none of the slots before it differs from each of them, and the other way round
  before : (i : ℕ) → i < used → absent (get_or ids i 0) (take i ids) ≡ true → (j : ℕ) → j < i → get_or ids j 0 ≡ get_or ids i 0 → ⊥
  before i h a j k e = (absent_is (get_or ids i 0) (take i ids)).0 a j (omega (arith, long i (omega arith))) (get_or-take i ids j 0 k ∙ e)

  pub held_next : (i : ℕ) → Held mep ids used i → i < used → id_good mep (get_or ids i 0) ≡ true → absent (get_or ids i 0) (take i ids) ≡ true
      → Held mep ids used (i + 1)
  held_next i v h g a = record { low = omega arith; good = good; apart = apart }
    where
      good : (k : ℕ) → k < i + 1 → id_good mep (get_or ids k 0) ≡ true
      good k l = ⊎_elim
          (λ (e : eqb k i ≡ true). ap (λ (n : ℕ). id_good mep (get_or ids n 0)) (eqb-true k i e) ∙ g)
          (λ (e : eqb k i ≡ false). v.good k (omega (arith, eqb-false k i e)))
          (known (eqb k i))

      apart : (j k : ℕ) → j < k → k < i + 1 → get_or ids j 0 ≡ get_or ids k 0 → ⊥
      apart j k l m same = ⊎_elim
          (λ (e : eqb k i ≡ true). before i h a j (omega (arith, eqb-true k i e)) (same ∙ ap (λ (n : ℕ). get_or ids n 0) (eqb-true k i e)))
          (λ (e : eqb k i ≡ false). v.apart j k l (omega (arith, eqb-false k i e)) same)
          (known (eqb k i))

  pub held_all : (i : ℕ) → Held mep ids used i → used ≤ i → true ≡ (every (id_good mep) (take used ids) && distinct (take used ids))
  held_all i v h =
      let all = long used (omega arith) in
      sym (join (every (id_good mep) (take used ids)) (distinct (take used ids))
      ((every_is (id_good mep) (take used ids) 0).1 (λ k l. ap (id_good mep) (get_or-take used ids k 0 (omega (arith, all)))
      ∙ v.good k (omega (arith, all, v.low))))
      ((distinct_is (take used ids)).1 (λ j k l m e. v.apart j k l (omega (arith, all, v.low))
      (sym (get_or-take used ids j 0 (omega (arith, all))) ∙ e ∙ get_or-take used ids k 0 (omega (arith, all))))))

  -- an ID that is not good, and one that stands at a slot before it
  pub bad_id : (i : ℕ) → i < used → id_good mep (get_or ids i 0) ≡ false
      → false ≡ (every (id_good mep) (take used ids) && distinct (take used ids))
  bad_id i h b = ⊎_elim
      (λ (t : every (id_good mep) (take used ids) ≡ true). absurd (false≢true (sym b ∙ sym (ap (id_good mep) (get_or-take used ids i 0 h))
      ∙ (every_is (id_good mep) (take used ids) 0).0 t i (omega (arith, long used (omega arith))))))
      (λ (f : every (id_good mep) (take used ids) ≡ false). rw f)
      (known (every (id_good mep) (take used ids)))

  pub twice : (i : ℕ) → i < used → absent (get_or ids i 0) (take i ids) ≡ false
      → false ≡ (every (id_good mep) (take used ids) && distinct (take used ids))
  twice i h b = ⊎_elim
      (λ (t : distinct (take used ids) ≡ true). absurd (false≢true (sym b ∙ new t)))
      (λ (f : distinct (take used ids) ≡ false). rw f (sym (and-false (every (id_good mep) (take used ids)))))
      (known (distinct (take used ids)))
    where
      new : distinct (take used ids) ≡ true → absent (get_or ids i 0) (take i ids) ≡ true
      new t = (absent_is (get_or ids i 0) (take i ids)).1 (λ j k e.
          let l : j < i = omega (arith, long i (omega arith)) in
          (distinct_is (take used ids)).0 t j i l (omega (arith, long used (omega arith)))
          (get_or-take used ids j 0 (omega arith) ∙ sym (get_or-take i ids j 0 l) ∙ e ∙ sym (get_or-take used ids i 0 h)))
