-- The laws of the tests, one for each way that the code goes. Assumes nothing.
use Prim.Native.Nat.{ℕ, zero, suc, ◌-◌, ◌≤◌, ◌<◌}
use mathlib.Core.Path.{◌≡◌, refl, ap₂, ◌∙◌}
use mathlib.Core.Bool.{true, false, ◌&&◌}
use mathlib.Core.List.{List, [], ◌∷◌, ◌++◌}
use mathlib.Core.Logic.{⊎_elim}
use native.Mathlib.Omega.{arith}
use lib.Dec.{ltb, leb}
use lib.ListN.{length, get_or, get_or-append}
use borrow.Author.Tests.{lt-ltb, le-ltb, le-leb, lt-leb, eq-eqb, ne_eqb, ltb-true, ltb-false}
use Rattle.base_laws.specs.Tests.{choose}
use Rattle.base_laws.proofs.Tests.{known}
use Rattle.replay_calls.specs.RecordedCalls.{row_of, front_number, room_of}
use Rattle.replay_calls.proofs.RecordedCalls.{row-most}
use Rattle.replay_good_calls.specs.GoodCalls.{fewest, most, body_good, side_good, is_call}

-- ── the body ──

-- no length is 1 or more and 0
none-long : (k : ℕ) → (leb 1 k && leb k 0) ≡ false
none-long zero = refl
none-long (suc k) = rw (le-leb 1 (suc k) (omega arith), lt-leb (suc k) 0 (omega arith))

module _ (n : ℕ) {r : ℕ} (e : r ≡ row_of n) where
  pub body_none : (k : ℕ) → 16 ≤ r → false ≡ body_good n k
  unfolding body_good
  body_none k h = rw (← e, le-leb 16 r h)

  pub body_some : (k : ℕ) → r < 16 → (leb (get_or fewest r 0) k && leb k (get_or most r 0)) ≡ body_good n k
  unfolding body_good
  body_some k h = rw (← e, lt-leb 16 r h)

  -- what is read in the tables with a row for every other number
  pub body_read : (k : ℕ) → (leb (get_or (fewest ++ (1 ∷ [])) r 0) k && leb k (get_or (most ++ (0 ∷ [])) r 0)) ≡ body_good n k
  body_read k =
      ⊎_elim
      (λ t.
      let low : r < 16 = ltb-true r 16 t in
      ap₂ (λ (x y : ℕ). leb x k && leb k y) (get_or-append fewest (1 ∷ []) 0 r low) (get_or-append most (0 ∷ []) 0 r low)
      ∙ body_some k low)
      (λ t.
      let high : 16 ≤ r = ltb-false r 16 t in
      let last : r ≡ 16 = omega (arith, row-most n, e, high) in
      ap₂ (λ (i j : ℕ). leb (get_or (fewest ++ (1 ∷ [])) i 0) k && leb k (get_or (most ++ (0 ∷ [])) j 0)) last last ∙ none-long k
      ∙ body_none k high)
      (known (ltb r 16))

module _ (call : List ℕ) where
  -- ── the side ──

  module _ (n : ℕ) where
    pub side-other : (n ≡ 258 → ⊥) → true ≡ side_good n call
    unfolding side_good choose
    side-other h = rw (ne_eqb n 258 h)

    pub side_cut : n ≡ 258 → length call < 3 → true ≡ side_good n call
    unfolding side_good choose
    side_cut h l = rw (eq-eqb n 258 h, lt-ltb (length call) 3 l)

    pub side-there : n ≡ 258 → 3 ≤ length call → leb (get_or call 2 0) 1 ≡ side_good n call
    unfolding side_good choose
    side-there h l = rw (eq-eqb n 258 h, le-ltb (length call) 3 l)

  -- ── all of it ──

  pub call_cut : length call < 2 → false ≡ is_call call
  unfolding is_call
  call_cut h = rw (lt-ltb (length call) 2 h)

  pub call-is : 2 ≤ length call
      → (body_good (front_number call) (length call - 2) && side_good (front_number call) call && leb (room_of call) 1600) ≡ is_call call
  unfolding is_call
  call-is h = rw (le-ltb (length call) 2 h)
