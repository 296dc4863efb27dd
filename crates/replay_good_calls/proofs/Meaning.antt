-- The statement of specs/GoodCalls.antt. Assumes nothing.
use Prim.Native.Nat.{ℕ, ◌-◌, ◌≤◌, ◌<◌}
use mathlib.Core.Path.{◌≡◌, refl, sym, ap, ◌∙◌}
use mathlib.Core.Bool.{true, false≢true}
use mathlib.Core.List.{List}
use mathlib.Core.Logic.{◌↔◌, ⊎_elim}
use native.Mathlib.Omega.{arith}
use lib.Dec.{ltb, eqb}
use lib.ListN.{length, get_or}
use borrow.Author.Tests.{ltb-true, ltb-false, leb-true, le-leb, eqb-true, eqb-false}
use Rattle.base_laws.proofs.Tests.{known, split, join}
use Rattle.replay_calls.specs.RecordedCalls.{row_of, front_number, room_of}
use Rattle.replay_calls.proofs.RecordedCalls.{row_in}
use Rattle.replay_calls.proofs.Meaning.{row-known}
use Rattle.replay_good_calls.specs.GoodCalls.{fewest, most, body_good, side_good, is_call, IsCall, GoodCalls}
use Rattle.replay_good_calls.proofs.GoodCalls.{body_none, body_some, side-other, side-there, call_cut, call-is}

row_small : (n : ℕ) → (257 ≤ n) × (n ≤ 272) → row_of n < 16
row_small n h = omega (arith, row_in n h.0 h.1)

-- ── a body ──

module _ (n k : ℕ) where
  abbrev Long : Type 0
  Long = (row_of n < 16) × (get_or fewest (row_of n) 0 ≤ k) × (k ≤ get_or most (row_of n) 0)

  body_long : body_good n k ≡ true → Long
  body_long t =
      ⊎_elim
      (λ u.
      let row : row_of n < 16 = ltb-true (row_of n) 16 u in
      let both = split _ _ (body_some n refl k row ∙ t) in
      (row, leb-true _ _ both.0, leb-true _ _ both.1))
      (λ u. absurd (false≢true (body_none n refl k (ltb-false (row_of n) 16 u) ∙ t)))
      (known (ltb (row_of n) 16))

  long_body : Long → body_good n k ≡ true
  long_body h = sym (body_some n refl k h.0) ∙ join _ _ (le-leb _ _ h.1) (le-leb _ _ h.2)

-- a frame's call has at least 19 octets
frame-long : (n k : ℕ) → n ≡ 258 → Long n k → 19 ≤ k
unfolding row_of
frame-long n k e h = let f : get_or fewest (row_of n) 0 ≡ 19 = ap (λ (m : ℕ). get_or fewest (row_of m) 0) e in
    omega (arith, f, h.1)

-- ── a call ──

module _ (call : List ℕ) where
  abbrev which : ℕ
  which = front_number call

  call-numbered : is_call call ≡ true → 2 ≤ length call
  call-numbered t =
      ⊎_elim (λ u. absurd (false≢true (call_cut call (ltb-true (length call) 2 u) ∙ t))) (λ u. ltb-false (length call) 2 u)
      (known (ltb (length call) 2))

  side-from : Long which (length call - 2) → side_good which call ≡ true → which ≡ 258 → get_or call 2 0 ≤ 1
  side-from h t e =
      let some : 3 ≤ length call = omega (arith, frame-long which (length call - 2) e h) in
      leb-true _ _ (side-there call which e some ∙ t)

  side-to : Long which (length call - 2) → (which ≡ 258 → get_or call 2 0 ≤ 1) → side_good which call ≡ true
  side-to h f =
      ⊎_elim
      (λ u.
      let e : which ≡ 258 = eqb-true which 258 u in
      let some : 3 ≤ length call = omega (arith, frame-long which (length call - 2) e h) in
      sym (side-there call which e some) ∙ le-leb _ _ (f e))
      (λ u. sym (side-other call which (eqb-false which 258 u)))
      (known (eqb which 258))

  good-to : is_call call ≡ true → IsCall call
  good-to t =
      let two = call-numbered t in
      let all = split _ _ (call-is call two ∙ t) in
      let front = split _ _ all.0 in
      let long = body_long which (length call - 2) front.0 in
      record {
        numbered = two;
        known = row-known which long.0;
        enough = omega (arith, long.1);
        few = omega (arith, long.2);
        side = side-from long front.1;
        room = leb-true _ _ all.1;
      }

  good-from : IsCall call → is_call call ≡ true
  good-from g =
      let two = g.numbered in
      let long : Long which (length call - 2) = (row_small which g.known, omega (arith, g.enough), omega (arith, g.few)) in
      sym (call-is call two)
      ∙ join _ _ (join _ _ (long_body which (length call - 2) long) (side-to long g.side)) (le-leb _ _ g.room)

  pub good : (is_call call ≡ true) ↔ IsCall call
  good = (good-to, good-from)

  -- the buffer part of a call fits the buffer
  pub room_fits : is_call call ≡ true → room_of call ≤ 1600
  room_fits t = (good-to t).room

pub good_calls : GoodCalls
good_calls = record { good = good }
