-- The statements of specs/Hex.antt, and the turns of the loop that writes. Assumes nothing.
use Prim.Native.Nat.{ℕ, suc, ◌+◌, ◌-◌, ◌*◌, ◌/◌, ◌%◌, ◌≤◌, ◌<◌}
use mathlib.Core.Path.{◌≡◌, refl, sym, ap, ◌∙◌}
use mathlib.Core.List.{List, [], ◌∷◌, ◌++◌, append-nil, append_assoc}
use native.Mathlib.Omega.{arith}
use native.Mathlib.Numerals.{add-one}
use lib.Dec.{ltb}
use lib.ListN.{length, get_or, take, set, length-append}
use lib.Seq.{take-suc, length-take-le}
use borrow.Author.Tests.{ltb-true, ltb-false, lt-ltb, le-ltb}
use mathlib.Core.Logic.{⊎_elim}
use Rattle.base_laws.specs.Lists.{laid}
use Rattle.base_laws.proofs.Overlaid.{laid_none, laid_one, laid_more, laid_next}
use Rattle.base_laws.proofs.Tests.{known}
use Rattle.base_octets.specs.Octets.{Octets}
use Rattle.base_hex.specs.Hex.{hex_digit, hex_pair, hex_pairs, hex_text, digit_value, pairs_value, Hexes}

-- ── how long ──

pub pair_long : (x : ℕ) → length (hex_pair x) ≡ 2
unfolding hex_pair
pair_long x = refl

pub pairs-long : (xs : List ℕ) → length (hex_pairs xs) ≡ 2 * length xs
unfolding hex_pairs
pairs-long [] = refl
pairs-long (x ∷ xs) = rw (length-append, pair_long x) (omega (arith, pairs-long xs))

-- ── there and back ──

pub digit-below : (d : ℕ) → d < 10 → hex_digit d ≡ 48 + d
unfolding hex_digit
digit-below d h = rw (lt-ltb d 10 h)

pub digit-above : (d : ℕ) → 10 ≤ d → hex_digit d ≡ 87 + d
unfolding hex_digit
digit-above d h = rw (le-ltb d 10 h)

value-below : (c : ℕ) → c < 58 → digit_value c ≡ c - 48
unfolding digit_value
value-below c h = rw (lt-ltb c 58 h)

value-above : (c : ℕ) → 58 ≤ c → digit_value c ≡ c - 87
unfolding digit_value
value-above c h = rw (le-ltb c 58 h)

digit-back : (d : ℕ) → digit_value (hex_digit d) ≡ d
digit-back d = ⊎_elim
    (λ t. let h : d < 10 = ltb-true d 10 t in rw (digit-below d h) (value-below (48 + d) (omega arith) ∙ omega arith))
    (λ t. let h : 10 ≤ d = ltb-false d 10 t in rw (digit-above d h) (value-above (87 + d) (omega arith) ∙ omega arith))
    (known (ltb d 10))

pub pairs-back : (xs : List ℕ) → Octets xs → pairs_value (hex_pairs xs) ≡ xs
unfolding hex_pairs hex_pair pairs_value
pairs-back [] h = refl
pairs-back (x ∷ xs) h =
    let e : x / 16 * 16 + x % 16 ≡ x = omega arith in
    rw (digit-back (x / 16), digit-back (x % 16), e, pairs-back xs (λ i. h (suc i)))

-- ── a pair written ──

pub pair_laid : (at x : ℕ) (l : List ℕ) → at + 2 ≤ length l
    → set (set l at (hex_digit (x / 16))) (at + 1) (hex_digit (x % 16)) ≡ laid at (hex_pair x) l
unfolding hex_pair
pair_laid at x l h =
    rw (laid_one at l (hex_digit (x / 16)) (omega arith)) (laid_more at (hex_digit (x / 16) ∷ []) l (hex_digit (x % 16)) (omega arith))

-- ── the loop that writes ──

pairs-append : (l m : List ℕ) → hex_pairs (l ++ m) ≡ hex_pairs l ++ hex_pairs m
unfolding hex_pairs
pairs-append [] m = refl
pairs-append (x ∷ l) m = rw (pairs-append l m) (sym (append_assoc (hex_pair x) (hex_pairs l) (hex_pairs m)))

pairs-more : (i : ℕ) (xs : List ℕ) → i < length xs → hex_pairs (take (i + 1) xs) ≡ hex_pairs (take i xs) ++ hex_pair (get_or xs i 0)
unfolding hex_pairs
pairs-more i xs h = rw (add-one, take-suc xs i 0 h, pairs-append (take i xs) (get_or xs i 0 ∷ []), append-nil (hex_pair (get_or xs i 0)))

pub pairs_start : (at : ℕ) (xs l : List ℕ) → l ≡ laid at (hex_pairs (take 0 xs)) l
unfolding hex_pairs
pairs_start at xs l = sym (laid_none at l)

pub pairs_turn : (at i : ℕ) (xs l : List ℕ) → i < length xs → at + 2 * length xs ≤ length l
    → laid (at + 2 * i) (hex_pair (get_or xs i 0)) (laid at (hex_pairs (take i xs)) l) ≡ laid at (hex_pairs (take (i + 1) xs)) l
pairs_turn at i xs l h fits =
    let x = get_or xs i 0 in
    let two = pair_long x in
    let long : length (hex_pairs (take i xs)) ≡ 2 * i = pairs-long (take i xs) ∙ ap (λ (k : ℕ). 2 * k) (length-take-le i xs (omega arith)) in
    rw (pairs-more i xs h) (laid_next at (2 * i) (hex_pairs (take i xs)) (hex_pair x) l long (omega arith))

-- ── the text ──

pub text-none : (xs : List ℕ) → length xs ≡ 0 → hex_text xs ≡ 45 ∷ []
unfolding hex_text
text-none [] h = refl
text-none (x ∷ xs) h = absurd (omega arith)

pub text-some : (xs : List ℕ) → (length xs ≡ 0 → ⊥) → hex_text xs ≡ hex_pairs xs
unfolding hex_text
text-some [] h = absurd (h refl)
text-some (x ∷ xs) h = refl

pub text-long : (xs : List ℕ) → (length xs ≡ 0 → ⊥) → length (hex_text xs) ≡ 2 * length xs
text-long xs h = rw (text-some xs h) (pairs-long xs)

pub hexes : Hexes
unfolding hex_text hex_pairs hex_pair hex_digit
hexes = record { long = pairs-long; back = pairs-back; none = refl; worked = refl }
