-- The statement of specs/Standing.antt: the test holds exactly where a condition stands. Assumes nothing.
use Prim.Native.Nat.{ℕ, zero, suc, ◌<◌, ◌≤◌}
use mathlib.Core.Path.{◌≡◌, sym, ap, ◌∙◌}
use mathlib.Core.List.{List, [], ◌∷◌}
use mathlib.Core.Bool.{Bool, true, not, ◌||◌, false≢true}
use mathlib.Core.Logic.{inl, inr, ⊎_elim}
use native.Mathlib.Omega.{arith}
use lib.Dec.{ltb}
use lib.ListN.{length, get_or, take}
use lib.Seq.{get_or-take}
use borrow.Author.Tests.{ltb-true, ltb-false, lt-ltb, not-true}
use Rattle.base_laws.specs.Lists.{absent, place_of}
use Rattle.base_laws.proofs.Tests.{known, either_true}
use Rattle.base_laws.proofs.Meanings.{absent_is, place_most, place_holds, place_absent}
use Rattle.state_view.specs.State.{State}
use Rattle.state_standing.specs.Standing.{Stands, lost, mismerge, unexpected_level, unexpected_mep, unexpected_period, ais, lck}
use Rattle.state_standing.specs.Standing.{used_timers, runs, standing, StandingIs}

-- ── a used slot whose timer is 0 ──

-- a place in front is a place of the list, and the other way round
in_front : (n : ℕ) (l : List ℕ) (i : ℕ) → i < length (take n l) → (i < n) × (i < length l)
in_front zero l i h = absurd (omega arith)
in_front (suc n) [] i h = absurd (omega arith)
in_front (suc n) (x ∷ l) zero h = (omega arith, omega arith)
in_front (suc n) (x ∷ l) (suc i) h = let r = in_front n l i (omega arith) in (omega (arith, r.0), omega (arith, r.1))

from_front : (n : ℕ) (l : List ℕ) (i : ℕ) → i < n → i < length l → i < length (take n l)
from_front zero l i h k = absurd (omega arith)
from_front (suc n) [] i h k = absurd (omega arith)
from_front (suc n) (x ∷ l) zero h k = omega arith
from_front (suc n) (x ∷ l) (suc i) h k = omega (arith, from_front n l i (omega arith) (omega arith))

module _ (s : State) where
  abbrev n : ℕ
  n = s.settings.count

  some-lost : not (absent 0 (used_timers s)) ≡ true → Stands s
  some-lost h =
      let l = used_timers s in
      let i = place_of 0 l in
      let most = place_most 0 l in
      let differ : i ≡ length l → ⊥ = λ e. false≢true (sym (not-true (absent 0 l) h) ∙ (place_absent 0 l).0 e) in
      let there : i < length l = below i (length l) most differ in
      let at = in_front n s.timers i there in
      lost i at.0 at.1 (sym (get_or-take n s.timers i 0 at.0) ∙ place_holds 0 l there)
    where
      below : (a b : ℕ) → a ≤ b → (a ≡ b → ⊥) → a < b
      below a b h k = ⊎_elim (λ t. ltb-true a b t) (λ f. absurd (k (omega (arith, ltb-false a b f)))) (known (ltb a b))

  lost-some : (i : ℕ) → i < n → i < length s.timers → get_or s.timers i 0 ≡ 0 → not (absent 0 (used_timers s)) ≡ true
  lost-some i h k e =
      ⊎_elim
      (λ t. absurd ((absent_is 0 (used_timers s)).0 t i (from_front n s.timers i h k) (get_or-take n s.timers i 0 h ∙ e)))
      (λ f. ap not f)
      (known (absent 0 (used_timers s)))

  -- ── the seven tests, one beside the other ──

  left : (a b : Bool) → a ≡ true → (a || b) ≡ true
  left a b h = (either_true a b).1 (inl h)

  right : (a b : Bool) → b ≡ true → (a || b) ≡ true
  right a b h = (either_true a b).1 (inr h)

  -- the first k of them
  abbrev t0 : Bool
  t0 = not (absent 0 (used_timers s))

  abbrev t1 : Bool
  t1 = t0 || runs s.mismerge

  abbrev t2 : Bool
  t2 = t1 || runs s.unexpected_level

  abbrev t3 : Bool
  t3 = t2 || runs s.unexpected_mep

  abbrev t4 : Bool
  t4 = t3 || runs s.unexpected_period

  abbrev t5 : Bool
  t5 = t4 || runs s.ais

  to : standing s ≡ true → Stands s
  unfolding standing
  to h =
      ⊎_elim (λ h5.
      ⊎_elim (λ h4.
      ⊎_elim (λ h3.
      ⊎_elim (λ h2.
      ⊎_elim (λ h1.
      ⊎_elim some-lost
      (λ k. mismerge (ltb-true 0 s.mismerge k)) ((either_true t0 (runs s.mismerge)).0 h1))
      (λ k. unexpected_level (ltb-true 0 s.unexpected_level k)) ((either_true t1 (runs s.unexpected_level)).0 h2))
      (λ k. unexpected_mep (ltb-true 0 s.unexpected_mep k)) ((either_true t2 (runs s.unexpected_mep)).0 h3))
      (λ k. unexpected_period (ltb-true 0 s.unexpected_period k)) ((either_true t3 (runs s.unexpected_period)).0 h4))
      (λ k. ais (ltb-true 0 s.ais k)) ((either_true t4 (runs s.ais)).0 h5))
      (λ k. lck (ltb-true 0 s.lck k)) ((either_true t5 (runs s.lck)).0 h)

  from_1 : t1 ≡ true → standing s ≡ true
  unfolding standing
  from_1 h = left t5 _ (left t4 _ (left t3 _ (left t2 _ (left t1 _ h))))

  from : Stands s → standing s ≡ true
  unfolding standing
  from (lost i h k e) = from_1 (left t0 _ (lost-some i h k e))
  from (mismerge h) = from_1 (right t0 _ (lt-ltb 0 s.mismerge h))
  from (unexpected_level h) = left t5 _ (left t4 _ (left t3 _ (left t2 _ (right t1 _ (lt-ltb 0 s.unexpected_level h)))))
  from (unexpected_mep h) = left t5 _ (left t4 _ (left t3 _ (right t2 _ (lt-ltb 0 s.unexpected_mep h))))
  from (unexpected_period h) = left t5 _ (left t4 _ (right t3 _ (lt-ltb 0 s.unexpected_period h)))
  from (ais h) = left t5 _ (right t4 _ (lt-ltb 0 s.ais h))
  from (lck h) = right t5 _ (lt-ltb 0 s.lck h)

pub standing_is : StandingIs
standing_is = record { standing_is = λ s. (to s, from s) }
