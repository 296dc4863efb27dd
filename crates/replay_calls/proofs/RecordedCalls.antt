-- The laws of the tests, one for each way that the code goes. Assumes nothing.
use Prim.Native.Nat.{ℕ, ◌-◌, ◌≤◌, ◌<◌}
use mathlib.Core.Path.{◌≡◌, ap, ◌∙◌}
use mathlib.Core.List.{List, [], ◌∷◌, ◌++◌}
use mathlib.Core.Logic.{⊎_elim}
use native.Mathlib.Omega.{arith}
use lib.Dec.{ltb}
use lib.ListN.{length, get_or, get_or-append}
use borrow.Author.Tests.{lt-ltb, le-ltb, le-leb, lt-leb, eq-eqb, ne_eqb, ltb-true, ltb-false}
use Rattle.base_laws.specs.Tests.{choose}
use Rattle.base_laws.specs.Lists.{part}
use Rattle.base_laws.proofs.Tests.{known}
use Rattle.base_numbers.specs.Numbers.{little_endian, number}
use Rattle.replay_calls.specs.RecordedCalls.{places, row_of, place_of, front_number, call_length, room_at, room_of}

-- ── the rows ──

module _ (n : ℕ) where
  pub row_below : n < 257 → 16 ≡ row_of n
  unfolding row_of
  row_below h = rw (lt-ltb n 257 h)

  pub row-above : 257 ≤ n → 272 < n → 16 ≡ row_of n
  unfolding row_of
  row-above l h = rw (le-ltb n 257 l, lt-ltb 272 n h)

  pub row_in : 257 ≤ n → n ≤ 272 → n - 257 ≡ row_of n
  unfolding row_of
  row_in l h = rw (le-ltb n 257 l, le-ltb 272 n h)

  -- as many rows as there are calls, and one for every other number
  pub row-most : row_of n < 17
  row-most =
      ⊎_elim (λ t. omega (arith, row_below (ltb-true n 257 t)))
      (λ t.
      let low : 257 ≤ n = ltb-false n 257 t in
      ⊎_elim (λ u. omega (arith, row-above low (ltb-true 272 n u)))
      (λ u. omega (arith, low, ltb-false 272 n u, row_in low (ltb-false 272 n u))) (known (ltb 272 n)))
      (known (ltb n 257))

  module _ {r : ℕ} (e : r ≡ row_of n) where
    pub place_none : 16 ≤ r → 0 ≡ place_of n
    unfolding place_of
    place_none h = rw (← e, le-leb 16 r h)

    pub place-some : r < 16 → get_or places r 0 ≡ place_of n
    unfolding place_of
    place-some h = rw (← e, lt-leb 16 r h)

    -- what is read in the table with a row for every other number
    pub place_read : get_or (places ++ (0 ∷ [])) r 0 ≡ place_of n
    place_read =
        ⊎_elim
        (λ t.
        let low : r < 16 = ltb-true r 16 t in
        get_or-append places (0 ∷ []) 0 r low ∙ place-some low)
        (λ t.
        let high : 16 ≤ r = ltb-false r 16 t in
        let last : r ≡ 16 = omega (arith, row-most, e, high) in
        ap (λ (k : ℕ). get_or (places ++ (0 ∷ [])) k 0) last ∙ place_none high)
        (known (ltb r 16))

-- ── the length ──

module _ (head : List ℕ) {n : ℕ} (e : n ≡ front_number head) where
  pub length-low : n < 2 → 0 ≡ call_length head
  unfolding call_length choose
  length-low h = rw (← e, lt-ltb n 2 h)

  pub length_high : 2 ≤ n → 2000 < n → 0 ≡ call_length head
  unfolding call_length choose
  length_high l h = rw (← e, le-ltb n 2 l, lt-ltb 2000 n h)

  pub length_in : 2 ≤ n → n ≤ 2000 → n ≡ call_length head
  unfolding call_length choose
  length_in l h = rw (← e, le-ltb n 2 l, le-ltb 2000 n h)

-- ── the buffer ──

module _ (call : List ℕ) where
  pub room_cut : length call < 2 → 0 ≡ room_of call
  unfolding room_of
  room_cut h = rw (lt-ltb (length call) 2 h)

  module _ {place : ℕ} (l : 2 ≤ length call) (e : place ≡ place_of (front_number call)) where
    pub room-none : place ≡ 0 → 0 ≡ room_of call
    unfolding room_of room_at choose
    room-none h = rw (le-ltb (length call) 2 l, ← e, eq-eqb place 0 h)

    pub room-short : (place ≡ 0 → ⊥) → length call - 2 < place → 0 ≡ room_of call
    unfolding room_of room_at choose
    room-short n h = rw (le-ltb (length call) 2 l, ← e, ne_eqb place 0 n, lt-ltb (length call - 2) place h)

    pub room-there : (place ≡ 0 → ⊥) → place ≤ length call - 2 → number little_endian (part place 2 call) ≡ room_of call
    unfolding room_of room_at choose
    room-there n h = rw (le-ltb (length call) 2 l, ← e, ne_eqb place 0 n, le-ltb (length call - 2) place h)
