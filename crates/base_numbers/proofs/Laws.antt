-- The statements of specs/Numbers.antt, and the laws that the loops cite. Assumes nothing.
use Prim.Native.Nat.{ℕ, ◌+◌, ◌*◌, ◌/◌, ◌%◌, ◌^◌, ◌≤◌, ◌<◌}
use mathlib.Core.Path.{◌≡◌, refl, sym, ap, ◌∙◌}
use mathlib.Core.List.{List, [], ◌∷◌, ◌++◌, reverse, reverse-cons, reverse-append, reverse-reverse}
use mathlib.Core.Logic.{◌⊎◌}
use native.Mathlib.Nat.{pow-suc, div-div-eq-div-mul}
use native.Mathlib.Numerals.{add-one}
use native.Mathlib.Omega.{arith}
use lib.ListN.{length, get_or, length-reverse}
use Rattle.base_laws.specs.Lists.{part, laid}
use Rattle.base_laws.proofs.Parts.{part_among, length_part}
use Rattle.base_laws.proofs.Overlaid.{laid-back, laid-others}
use Rattle.base_octets.specs.Octets.{Octets}
use Rattle.base_octets.proofs.Octets.{reverse-octets, part-octets}
use Rattle.base_numbers.specs.Numbers.{Order, little_endian, big_endian, number_lowest_first, octets_lowest_first}
use Rattle.base_numbers.specs.Numbers.{number, in_octets, Numbers}
use Rattle.base_numbers.proofs.Spelled.{spelled-size, spelled-octets, spelled-mod, spelled-more}
use Rattle.base_numbers.proofs.Spelled.{lowest-below, lowest-back, lowest-again, lowest-append}

-- ── both orders ──

pub length-octets : (o : Order) (n v : ℕ) → length (in_octets o n v) ≡ n
unfolding in_octets
length-octets little_endian n v = spelled-size n v
length-octets big_endian n v = length-reverse (octets_lowest_first n v) ∙ spelled-size n v

octets-octets : (o : Order) (n v : ℕ) → Octets (in_octets o n v)
unfolding in_octets
octets-octets little_endian n v = spelled-octets n v
octets-octets big_endian n v = reverse-octets (octets_lowest_first n v) (spelled-octets n v)

pub number-below : (o : Order) (xs : List ℕ) → Octets xs → number o xs < 256 ^ length xs
unfolding number
number-below little_endian xs h = lowest-below xs h
number-below big_endian xs h = rw (length-reverse xs) at (lowest-below (reverse xs) (reverse-octets xs h))

pub number-back : (o : Order) (n v : ℕ) → v < 256 ^ n → number o (in_octets o n v) ≡ v
unfolding number in_octets
number-back little_endian n v h = lowest-back n v h
number-back big_endian n v h = rw (reverse-reverse (octets_lowest_first n v)) (lowest-back n v h)

pub octets-again : (o : Order) (xs : List ℕ) → Octets xs → in_octets o (length xs) (number o xs) ≡ xs
unfolding number in_octets
octets-again little_endian xs h = lowest-again xs h
octets-again big_endian xs h =
    ap reverse (rw (length-reverse xs) at (lowest-again (reverse xs) (reverse-octets xs h))) ∙ reverse-reverse xs

-- ── numbers at a place ──

-- the number that stands behind p, which is `at` octets long, in a list that is so put together
pub number_among : {all : List ℕ} (o : Order) (n v : ℕ) (p q : List ℕ) (at : ℕ) → all ≡ p ++ in_octets o n v ++ q → length p ≡ at
    → v < 256 ^ n
    → number o (part at n all) ≡ v
number_among o n v p q at e l small =
    ap (number o) (part_among p (in_octets o n v) q at n e l (length-octets o n v)) ∙ number-back o n v small

pub number-here : (o : Order) (n v : ℕ) (p q : List ℕ) (at : ℕ) → length p ≡ at → v < 256 ^ n
    → number o (part at n (p ++ in_octets o n v ++ q)) ≡ v
number-here o n v p q at l small = number_among o n v p q at refl l small

module _ (o : Order) (n at v : ℕ) (s : List ℕ) (fits : at + n ≤ length s) where
  room : at + length (in_octets o n v) ≤ length s
  room = rw (length-octets o n v) fits

  pub put_back : v < 256 ^ n → number o (part at n (laid at (in_octets o n v) s)) ≡ v
  put_back small =
      ap (number o) (rw (length-octets o n v) at (laid-back at (in_octets o n v) s room)) ∙ number-back o n v small

  pub put_others : (i : ℕ) → (i < at) ⊎ (at + n ≤ i) → get_or (laid at (in_octets o n v) s) i 0 ≡ get_or s i 0
  put_others i w = laid-others at (in_octets o n v) s room 0 i (rw (length-octets o n v) w)

-- ── one octet more ──

-- read from the highest down: what is read so far, times 256, and the next octet
pub big_more : (xs : List ℕ) (x : ℕ) → number big_endian (xs ++ (x ∷ [])) ≡ number big_endian xs * 256 + x
unfolding number number_lowest_first
big_more xs x = rw (reverse-append xs (x ∷ [])) (omega arith)

pub little_more : (x : ℕ) (xs : List ℕ) → number little_endian (x ∷ xs) ≡ number little_endian xs * 256 + x
unfolding number number_lowest_first
little_more x xs = omega arith

-- ── two runs of octets side by side ──

-- octets of a lower and a higher half
pub little_append : (xs ys : List ℕ) → number little_endian (xs ++ ys) ≡ number little_endian xs + 256 ^ length xs * number little_endian ys
unfolding number
little_append xs ys = lowest-append xs ys

pub left_out : (o : Order) (n v : ℕ) → in_octets o n (v % 256 ^ n) ≡ in_octets o n v
unfolding in_octets
left_out little_endian n v = spelled-mod n v
left_out big_endian n v = ap reverse (spelled-mod n v)

pub little_next : (n v : ℕ) → in_octets little_endian (n + 1) v ≡ in_octets little_endian n v ++ (v / 256 ^ n % 256 ∷ [])
unfolding in_octets
little_next n v = rw (add-one n) (spelled-more n v)

pub big_next : (n v : ℕ) → in_octets big_endian (n + 1) v ≡ v / 256 ^ n % 256 ∷ in_octets big_endian n v
unfolding in_octets
big_next n v = rw (add-one n, spelled-more n v) (reverse-append (octets_lowest_first n v) (v / 256 ^ n % 256 ∷ []))

-- one division more
pub divided : (n v : ℕ) → v / 256 ^ n / 256 ≡ v / 256 ^ (n + 1)
divided n v = div-div-eq-div-mul v (256 ^ n) 256 ∙ ap (λ (k : ℕ). v / k) (sym (pow-suc 256 n) ∙ ap (λ (k : ℕ). 256 ^ k) (sym (add-one n)))

-- ── what is said ──

nothing : (o : Order) → number o [] ≡ 0
unfolding number number_lowest_first
nothing little_endian = refl
nothing big_endian = refl

lowest_first : (x : ℕ) (xs : List ℕ) → number little_endian (x ∷ xs) ≡ x + 256 * number little_endian xs
unfolding number number_lowest_first
lowest_first x xs = refl

highest_first : (x : ℕ) (xs : List ℕ) → number big_endian (x ∷ xs) ≡ x * 256 ^ length xs + number big_endian xs
unfolding number number_lowest_first
highest_first x xs = rw (reverse-cons x xs, lowest-append (reverse xs) (x ∷ []), length-reverse xs) (omega arith)

pub read_again : (o : Order) (n at : ℕ) (s : List ℕ) → at + n ≤ length s → Octets s → in_octets o n (number o (part at n s)) ≡ part at n s
read_again o n at s fits h = rw (length_part at n s fits) at (octets-again o (part at n s) (part-octets at n s h))

pub numbers : Numbers
numbers = record {
  nothing = nothing;
  highest_first = highest_first;
  lowest_first = lowest_first;
  size = length-octets;
  octets = octets-octets;
  left_out = left_out;
  below = number-below;
  back = number-back;
  octets_back = octets-again;
  put_back = put_back;
  put_others = λ o n at v s i h w. put_others o n at v s h i w;
  read_again = read_again;
}
