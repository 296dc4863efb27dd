-- Numbers in octets, the lowest first: there and back, runs side by side, what does not fit. Assumes nothing.
use Prim.Native.Nat.{ℕ, zero, suc, ◌+◌, ◌*◌, ◌/◌, ◌%◌, ◌^◌, ◌<◌}
use mathlib.Core.Path.{◌≡◌, refl, sym, ap, ◌∙◌}
use mathlib.Core.List.{List, [], ◌∷◌, ◌++◌}
use native.Mathlib.Nat.{pow-zero, pow-suc, pow-succ', one-le-pow, div-div-eq-div-mul, div-one, div-lt_iff_lt-mul, mul_assoc, zero-add}
use native.Mathlib.Nat.{suc-add}
use native.Mathlib.Numerals.{add-one}
use native.Mathlib.Omega.{arith}
use lib.Arith.{mod-mul}
use lib.ListN.{length}
use Rattle.base_octets.specs.Octets.{Octets}
use Rattle.base_octets.proofs.Octets.{tail_octets}
use Rattle.base_numbers.specs.Numbers.{number_lowest_first, octets_lowest_first}

pub spelled-size : (n v : ℕ) → length (octets_lowest_first n v) ≡ n
unfolding octets_lowest_first
spelled-size zero v = refl
spelled-size (suc n) v = ap suc (spelled-size n (v / 256))

pub spelled-octets : (n v : ℕ) → Octets (octets_lowest_first n v)
unfolding octets_lowest_first
spelled-octets zero v i = omega arith
spelled-octets (suc n) v zero = omega arith
spelled-octets (suc n) v (suc i) = spelled-octets n (v / 256) i

pub lowest-below : (xs : List ℕ) → Octets xs → number_lowest_first xs < 256 ^ length xs
unfolding number_lowest_first
lowest-below [] h = rw (pow-zero 256) (omega arith)
lowest-below (x ∷ xs) h = rw (pow-succ' 256 (length xs)) (omega (arith, h 0, lowest-below xs (tail_octets x xs h)))

pub lowest-back : (n v : ℕ) → v < 256 ^ n → number_lowest_first (octets_lowest_first n v) ≡ v
unfolding number_lowest_first octets_lowest_first
lowest-back zero v h = omega (arith, pow-zero 256)
lowest-back (suc n) v h =
    let small : v / 256 < 256 ^ n = (div-lt_iff_lt-mul {k = 256} {x = v} {y = 256 ^ n} (omega arith)).1 (rw (pow-suc 256 n) at h) in
    rw (lowest-back n (v / 256) small) (omega arith)

pub lowest-again : (xs : List ℕ) → Octets xs → octets_lowest_first (length xs) (number_lowest_first xs) ≡ xs
unfolding number_lowest_first octets_lowest_first
lowest-again [] h = refl
lowest-again (x ∷ xs) h =
    let m : (x + 256 * number_lowest_first xs) % 256 ≡ x = omega (arith, h 0) in
    let d : (x + 256 * number_lowest_first xs) / 256 ≡ number_lowest_first xs = omega (arith, h 0) in
    rw (m, d, lowest-again xs (tail_octets x xs h))

-- ── two runs of octets side by side ──

pub lowest-append : (xs ys : List ℕ) → number_lowest_first (xs ++ ys) ≡ number_lowest_first xs + 256 ^ length xs * number_lowest_first ys
unfolding number_lowest_first
lowest-append [] ys = omega (arith, pow-zero 256)
lowest-append (x ∷ xs) ys =
    rw (lowest-append xs ys, pow-succ' 256 (length xs), mul_assoc 256 (256 ^ length xs) (number_lowest_first ys)) (omega arith)

spelled-append : (m n v : ℕ) → octets_lowest_first (m + n) v ≡ octets_lowest_first m v ++ octets_lowest_first n (v / 256 ^ m)
unfolding octets_lowest_first
spelled-append zero n v = rw (zero-add n, pow-zero 256, div-one v)
spelled-append (suc m) n v =
    let e : v / 256 / 256 ^ m ≡ v / 256 ^ suc m = div-div-eq-div-mul v 256 (256 ^ m) ∙ ap (λ (k : ℕ). v / k) (sym (pow-succ' 256 m)) in
    rw (suc-add m n) (ap (λ (l : List ℕ). v % 256 ∷ l) (spelled-append m n (v / 256)) ∙ rw e)

-- what does not fit in n octets makes no difference to them
pub spelled-mod : (n v : ℕ) → octets_lowest_first n (v % 256 ^ n) ≡ octets_lowest_first n v
unfolding octets_lowest_first
spelled-mod zero v = refl
spelled-mod (suc n) v =
    let e : v % 256 ^ suc n ≡ v / 256 % 256 ^ n * 256 + v % 256 =
    ap (λ (k : ℕ). v % k) (pow-suc 256 n) ∙ mod-mul v (one-le-pow n 256 (omega arith)) (omega arith) in
    let m : v % 256 ^ suc n % 256 ≡ v % 256 = omega arith in
    let d : v % 256 ^ suc n / 256 ≡ v / 256 % 256 ^ n = omega arith in
    rw (m, d, spelled-mod n (v / 256))

-- written from the lowest up: octet n is what is left after n divisions by 256
pub spelled-more : (n v : ℕ) → octets_lowest_first (suc n) v ≡ octets_lowest_first n v ++ (v / 256 ^ n % 256 ∷ [])
unfolding octets_lowest_first
spelled-more n v = ap (λ (k : ℕ). octets_lowest_first k v) (sym (add-one n)) ∙ spelled-append n 1 v
