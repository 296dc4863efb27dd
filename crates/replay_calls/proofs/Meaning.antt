-- The statement of specs/RecordedCalls.antt. Assumes nothing.
use Prim.Native.Nat.{ℕ, zero, suc, ◌+◌, ◌-◌, ◌≤◌, ◌<◌}
use mathlib.Core.Path.{◌≡◌, refl, sym, ap, subst, ◌∙◌}
use mathlib.Core.Bool.{true, false≢true}
use mathlib.Core.List.{List}
use mathlib.Core.Logic.{◌↔◌, ◌⊎◌, inl, inr, ⊎_elim}
use native.Mathlib.Omega.{arith}
use lib.Dec.{ltb}
use borrow.Author.Tests.{ltb-true, ltb-false}
use Rattle.base_laws.proofs.Tests.{known}
use Rattle.replay_calls.specs.RecordedCalls.{row_of, place_of, front_number, call_length, hands_over, Calls}
use Rattle.replay_calls.proofs.RecordedCalls.{row_below, row-above, place_none, length-low, length_high, length_in}

-- ── a number, and its row ──

-- a number with a row is a call's
pub row-known : (n : ℕ) → row_of n < 16 → (257 ≤ n) × (n ≤ 272)
row-known n h =
    ⊎_elim (λ t. absurd (omega (arith, row_below n (ltb-true n 257 t))))
    (λ t.
    let low : 257 ≤ n = ltb-false n 257 t in
    ⊎_elim (λ u. absurd (omega (arith, row-above n low (ltb-true 272 n u)))) (λ u. (low, ltb-false 272 n u)) (known (ltb 272 n)))
    (known (ltb n 257))

-- ── a length ──

module _ (head : List ℕ) where
  abbrev n : ℕ
  n = front_number head

  bad-to : call_length head ≡ 0 → (n < 2) ⊎ (2000 < n)
  bad-to e =
      ⊎_elim (λ t. inl (ltb-true n 2 t))
      (λ t.
      let low : 2 ≤ n = ltb-false n 2 t in
      ⊎_elim (λ u. inr (ltb-true 2000 n u)) (λ u. absurd (omega (arith, e, low, length_in head {n = n} refl low (ltb-false 2000 n u))))
      (known (ltb 2000 n)))
      (known (ltb n 2))

  bad-from : (n < 2) ⊎ (2000 < n) → call_length head ≡ 0
  bad-from w = ⊎_elim (λ h. sym (length-low head {n = n} refl h)) (λ h. sym (length_high head {n = n} refl (omega arith) h)) w

  pub length-bad : (call_length head ≡ 0) ↔ ((n < 2) ⊎ (2000 < n))
  length-bad = (bad-to, bad-from)

  pub length-told : 2 ≤ n → n ≤ 2000 → call_length head ≡ n
  length-told l h = sym (length_in head {n = n} refl l h)

  -- and so it fits where a call is read into
  pub length_most : call_length head ≤ 2000
  length_most =
      ⊎_elim (λ t. omega (arith, length-low head {n = n} refl (ltb-true n 2 t)))
      (λ t.
      let low : 2 ≤ n = ltb-false n 2 t in
      ⊎_elim (λ u. omega (arith, length_high head {n = n} refl low (ltb-true 2000 n u)))
      (λ u. omega (arith, length_in head {n = n} refl low (ltb-false 2000 n u), ltb-false 2000 n u))
      (known (ltb 2000 n)))
      (known (ltb n 2))

-- ── the six ──

abbrev Six : ℕ → Type 0
Six m = (m ≡ 258) ⊎ (m ≡ 259) ⊎ (m ≡ 261) ⊎ (m ≡ 262) ⊎ (m ≡ 269) ⊎ (m ≡ 271)

six-from : (m : ℕ) → Six m → hands_over m ≡ true
unfolding hands_over place_of row_of
six-from m w =
    let there : (k : ℕ) → hands_over k ≡ true → m ≡ k → hands_over m ≡ true = λ k t e. ap hands_over e ∙ t in
    ⊎_elim (there 258 refl) (⊎_elim (there 259 refl)
    (⊎_elim (there 261 refl) (⊎_elim (there 262 refl) (⊎_elim (there 269 refl) (there 271 refl))))) w

six_rows : (k : ℕ) → k < 16 → hands_over (257 + k) ≡ true → Six (257 + k)
unfolding hands_over place_of row_of
six_rows zero h t = absurd (false≢true t)
six_rows (suc zero) h t = inl refl
six_rows (suc (suc zero)) h t = inr (inl refl)
six_rows (suc (suc (suc zero))) h t = absurd (false≢true t)
six_rows (suc (suc (suc (suc zero)))) h t = inr (inr (inl refl))
six_rows (suc (suc (suc (suc (suc zero))))) h t = inr (inr (inr (inl refl)))
six_rows (suc (suc (suc (suc (suc (suc zero)))))) h t = absurd (false≢true t)
six_rows (suc (suc (suc (suc (suc (suc (suc zero))))))) h t = absurd (false≢true t)
six_rows (suc (suc (suc (suc (suc (suc (suc (suc zero)))))))) h t = absurd (false≢true t)
six_rows (suc (suc (suc (suc (suc (suc (suc (suc (suc zero))))))))) h t = absurd (false≢true t)
six_rows (suc (suc (suc (suc (suc (suc (suc (suc (suc (suc zero)))))))))) h t = absurd (false≢true t)
six_rows (suc (suc (suc (suc (suc (suc (suc (suc (suc (suc (suc zero))))))))))) h t = absurd (false≢true t)
six_rows (suc (suc (suc (suc (suc (suc (suc (suc (suc (suc (suc (suc zero)))))))))))) h t = inr (inr (inr (inr (inl refl))))
six_rows (suc (suc (suc (suc (suc (suc (suc (suc (suc (suc (suc (suc (suc zero))))))))))))) h t = absurd (false≢true t)
six_rows (suc (suc (suc (suc (suc (suc (suc (suc (suc (suc (suc (suc (suc (suc zero)))))))))))))) h t = inr (inr (inr (inr (inr refl))))
six_rows (suc (suc (suc (suc (suc (suc (suc (suc (suc (suc (suc (suc (suc (suc (suc zero))))))))))))))) h t = absurd (false≢true t)
six_rows (suc (suc (suc (suc (suc (suc (suc (suc (suc (suc (suc (suc (suc (suc (suc (suc k)))))))))))))))) h t = absurd (omega arith)

six-to : (m : ℕ) → hands_over m ≡ true → Six m
unfolding hands_over
six-to m t =
    ⊎_elim
    (λ u.
    let both = row-known m (ltb-true (row_of m) 16 u) in
    let e : m ≡ 257 + (m - 257) = omega (arith, both.0) in
    subst Six (sym e) (six_rows (m - 257) (omega (arith, both.1)) (sym (ap hands_over e) ∙ t)))
    (λ u. absurd (omega (arith, place_none m refl (ltb-false (row_of m) 16 u), ltb-true 0 (place_of m) t)))
    (known (ltb (row_of m) 16))

pub calls : Calls
unfolding place_of row_of
calls = record { told = length-told; bad = length-bad; six = λ m. (six-to m, six-from m); frame_room = refl }
