-- The digits of a number are a text of it, and no other text is. Assumes nothing.
use Prim.Native.Nat.{ℕ, zero, suc, ◌+◌, ◌-◌, ◌*◌, ◌/◌, ◌%◌, ◌^◌, ◌≤◌, ◌<◌}
use mathlib.Core.Path.{◌≡◌, refl, sym, ap, ◌∙◌}
use mathlib.Core.List.{List, [], ◌∷◌, ◌++◌}
use mathlib.Core.Logic.{⊎_elim}
use native.Mathlib.Nat.{pow-zero, pow-suc, pow-succ', one-le-pow, pow-le-pow_right, div-one, div-div-eq-div-mul, div-lt_iff_lt-mul}
use native.Mathlib.Nat.{le-div_iff_mul-le}
use native.Mathlib.Omega.{arith}
use lib.Dec.{ltb}
use lib.ListN.{length, get_or}
use borrow.Author.Tests.{ltb-true, ltb-false}
use Rattle.base_laws.proofs.Tests.{known}
use Rattle.base_number_text.specs.Decimal.{digit, leading, digits_of, spelled, Digits, IsDecimal}

-- ── the digits of a number are a text of it ──

spelled-more : (n : ℕ) (text : List ℕ) (x : ℕ) → spelled n (text ++ (x ∷ [])) ≡ spelled n text * 10 + (x - 48)
unfolding spelled
spelled-more n [] x = refl
spelled-more n (y ∷ text) x = spelled-more (n * 10 + (y - 48)) text x

rest-digits : (x : ℕ) (text : List ℕ) → Digits (x ∷ text) → Digits text
rest-digits x text h i = h (suc i)

digits_more : (text : List ℕ) (d : ℕ) → d < 10 → Digits text → Digits (text ++ (digit d ∷ []))
digits_more [] d l h zero = omega arith
digits_more [] d l h (suc i) = omega arith
digits_more (x ∷ text) d l h zero = h 0
digits_more (x ∷ text) d l h (suc i) = digits_more text d l (rest-digits x text h) i

-- digits that spell n and do not begin with '0': none for 0
record Leads (text : List ℕ) (n : ℕ) : Type 0 where
  digits : Digits text
  front : get_or text 0 49 ≡ 48 → ⊥
  value : spelled 0 text ≡ n

leads_more : (text : List ℕ) (n : ℕ) → Leads text (suc n / 10) → Leads (text ++ (digit (suc n % 10) ∷ [])) (suc n)
unfolding spelled
leads_more text n t = record {
  digits = digits_more text (suc n % 10) (omega arith) t.digits;
  front = front text t;
  value = spelled-more 0 text _ ∙ rw t.value (omega arith);
}
  where
    front : (text : List ℕ) → Leads text (suc n / 10) → get_or (text ++ (digit (suc n % 10) ∷ [])) 0 49 ≡ 48 → ⊥
    front [] t e = omega (arith, t.value)
    front (x ∷ text) t e = t.front e

leads : (most n : ℕ) → n ≤ most → Leads (leading most n) n
unfolding leading spelled
leads zero n h = record { digits = λ i. omega arith; front = λ e. omega arith; value = omega arith }
leads (suc most) zero h = record { digits = λ i. omega arith; front = λ e. omega arith; value = refl }
leads (suc most) (suc n) h = leads_more (leading most (suc n / 10)) n (leads most (suc n / 10) (omega arith))

is_leading : (text : List ℕ) (n : ℕ) → Leads text (suc n) → IsDecimal text (suc n)
unfolding spelled
is_leading [] n t = absurd (omega (arith, t.value))
is_leading (x ∷ text) n t = record { some = omega arith; digits = t.digits; front = λ e. absurd (t.front e); value = t.value }

pub is : (n : ℕ) → IsDecimal (digits_of n) n
unfolding digits_of spelled
is zero = record { some = omega arith; digits = digits_more [] 0 (omega arith) (λ i. omega arith); front = λ e. omega arith; value = refl }
is (suc n) = is_leading (leading (suc n) (suc n)) n (leads (suc n) (suc n) (omega arith))

-- ── and no other text is ──

-- the last k digits of n
unfoldable pub last_digits : ℕ → ℕ → List ℕ
last_digits zero n = []
last_digits (suc k) n = digit (n / 10 ^ k % 10) ∷ last_digits k n

pub length_last : (k n : ℕ) → length (last_digits k n) ≡ k
unfolding last_digits
length_last zero n = refl
length_last (suc k) n = ap suc (length_last k n)

-- without digits the number before them is left
spelled-before : (n : ℕ) (text : List ℕ) → Digits text → spelled n text / 10 ^ length text ≡ n
unfolding spelled
spelled-before n [] h = rw (pow-zero 10) (div-one n)
spelled-before n (x ∷ text) h =
    let v = spelled (n * 10 + (x - 48)) text in
    let e : v / 10 ^ length text ≡ n * 10 + (x - 48) = spelled-before (n * 10 + (x - 48)) text (rest-digits x text h) in
    rw (pow-suc 10 (length text), ← div-div-eq-div-mul v (10 ^ length text) 10, e) (omega (arith, h 0))

-- and they are its last ones
spelled-last : (n : ℕ) (text : List ℕ) → Digits text → last_digits (length text) (spelled n text) ≡ text
unfolding last_digits spelled
spelled-last n [] h = refl
spelled-last n (x ∷ text) h =
    let m = n * 10 + (x - 48) in
    let d : digit (m % 10) ≡ x = omega (arith, h 0) in
    rw (spelled-before m text (rest-digits x text h), d, spelled-last m text (rest-digits x text h))

-- k digits hold n, and no fewer do
pub record Counted (n k : ℕ) : Type 0 where
  pub some : 1 ≤ k
  pub enough : n < 10 ^ k
  pub fewer : (j : ℕ) → 1 ≤ j → j < k → 10 ^ j ≤ n

pub counted-least : {n k : ℕ} → Counted n k → (j : ℕ) → 1 ≤ j → n < 10 ^ j → k ≤ j
counted-least {n} {k} c j s h = ⊎_elim (λ t. omega (arith, c.fewer j s (ltb-true j k t))) (λ f. ltb-false j k f) (known (ltb j k))

pub counted-text : (text : List ℕ) (n : ℕ) → IsDecimal text n → Counted n (length text)
unfolding spelled
counted-text [] n t = absurd (omega (arith, t.some))
counted-text (x ∷ text) n t =
    let k = length text in
    let top : n / 10 ^ k ≡ 0 * 10 + (x - 48) = rw t.value at
    (spelled-before (0 * 10 + (x - 48)) text (rest-digits x text t.digits)) in
    let whole : 0 < 10 ^ k = one-le-pow k 10 (omega arith) in
    record {
      some = omega arith;
      enough = rw (pow-succ' 10 k) ((div-lt_iff_lt-mul {x = n} {y = 10} whole).0 (omega (arith, t.digits 0)));
      fewer = λ j s l.
          let other : x ≡ 48 → ⊥ = λ e. omega (arith, t.front e) in
          let low : 1 * 10 ^ k ≤ n = (le-div_iff_mul-le {x = 1} {y = n} whole).0 (omega (arith, t.digits 0)) in
          omega (arith, pow-le-pow_right {n = 10} (omega arith) {i = j} {j = k} (omega arith));
    }

-- so a count is the length of any text, and the text is the last digits
pub counted-length : (text : List ℕ) (n k : ℕ) → IsDecimal text n → Counted n k → k ≡ length text
counted-length text n k t c =
    let d = counted-text text n t in
    omega (arith, counted-least c (length text) d.some d.enough, counted-least d k c.some c.enough)

pub last-text : (text : List ℕ) (n : ℕ) → IsDecimal text n → last_digits (length text) n ≡ text
last-text text n t = rw t.value at (spelled-last 0 text t.digits)

pub only : (text : List ℕ) (n : ℕ) → IsDecimal text n → text ≡ digits_of n
only text n t =
    sym (last-text text n t) ∙ ap (λ (k : ℕ). last_digits k n) (counted-length (digits_of n) n (length text) (is n) (counted-text text n t))
    ∙ last-text (digits_of n) n (is n)
