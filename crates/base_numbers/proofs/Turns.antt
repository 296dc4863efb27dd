-- One turn of each loop of src/lib.rt. Assumes nothing.
use Prim.Native.Nat.{ℕ, ◌+◌, ◌*◌, ◌/◌, ◌%◌, ◌^◌, ◌-◌, ◌≤◌, ◌<◌}
use mathlib.Core.Path.{◌≡◌, refl, sym, ap, ◌∙◌}
use mathlib.Core.List.{List, [], ◌∷◌, ◌++◌, append_assoc}
use native.Mathlib.Nat.{pow-suc, pow-le-pow_right}
use native.Mathlib.Numerals.{add-one}
use native.Mathlib.Omega.{arith}
use lib.Arith.{digits_lt}
use lib.Bits.{bit_and, and_mask}
use lib.ListN.{length, get_or, set, take, drop}
use Rattle.base_laws.specs.Lists.{part, laid}
use Rattle.base_laws.proofs.Parts.{length_part}
use Rattle.base_octets.specs.Octets.{Octets}
use Rattle.base_octets.proofs.Octets.{part-octets}
use Rattle.std.proofs.lemmas.List.{take_more, take_more_set}
use Rattle.base_laws.proofs.Overlaid.{laid-before}
use Rattle.base_numbers.specs.Numbers.{Order, little_endian, big_endian, number, number_lowest_first, octets_lowest_first, in_octets}
use Rattle.base_numbers.proofs.Laws.{big_more, little_next, big_next, length-octets, divided}

-- a number in k octets, and one octet more
pub more-below : (k r x : ℕ) → r < 256 ^ k → x < 256 → r * 256 + x < 256 ^ (k + 1)
more-below k r x h b = rw (add-one k, pow-suc 256 k) (digits_lt h b)

-- four octets fit in 32 bits
pub most-below : (k : ℕ) → k ≤ 4 → 256 ^ k ≤ 2 ^ 32
most-below k h = pow-le-pow_right {n = 256} (omega arith) h

-- the part `&s[at..at + n]` of a slice
module _ (at n : ℕ) (s : List ℕ) where
  pub items_part : take (at + n - at) (drop at s) ≡ part at n s
  unfolding part
  items_part =
      let e : at + n - at ≡ n = omega arith in
      rw e

  pub items-long : at + n ≤ length s → length (take (at + n - at) (drop at s)) ≡ n
  items-long h = ap length items_part ∙ length_part at n s h

  pub items-octets : Octets s → Octets (take (at + n - at) (drop at s))
  items-octets h = rw items_part (part-octets at n s h)

-- no octets spell 0
pub big_none : 0 ≡ number big_endian []
unfolding number number_lowest_first
big_none = refl

pub little_none : 0 ≡ number little_endian []
unfolding number number_lowest_first
little_none = refl

-- the number that i octets and the next one spell, the highest first
pub big_turn : (xs : List ℕ) (i : ℕ) → i < length xs
    → number big_endian (take (i + 1) xs) ≡ number big_endian (take i xs) * 256 + get_or xs i 0
big_turn xs i h = ap (number big_endian) (take_more xs i 0 h) ∙ big_more (take i xs) (get_or xs i 0)

-- from the last octet to the first: the last of those left goes before those done
pub before_done : (all left rest done : List ℕ) (x : ℕ) → all ≡ left ++ done → left ≡ rest ++ (x ∷ []) → all ≡ rest ++ (x ∷ done)
before_done all left rest done x e s = e ∙ ap (λ (l : List ℕ). l ++ done) s ∙ append_assoc rest (x ∷ []) done

pub none-left : (all left done : List ℕ) → all ≡ left ++ done → length left ≡ 0 → all ≡ done
none-left all [] done e h = e
none-left all (x ∷ left) done e h = absurd (omega arith)

-- loops that write v, octet by octet from the lowest: at the start nothing is written, and each turn writes one more
pub no-octets : (o : Order) (v : ℕ) → [] ≡ in_octets o 0 v
unfolding in_octets octets_lowest_first
no-octets little_endian v = refl
no-octets big_endian v = refl

-- the octet that stands for v once k octets are written
pub octet-of : (k v rest : ℕ) → rest ≡ v / 256 ^ k → bit_and rest 255 ≡ v / 256 ^ k % 256
octet-of k v rest e = and_mask rest 8 ∙ ap (λ (m : ℕ). m % 256) e

pub up_turn : (i v rest : ℕ) (xs : List ℕ) → i < length xs → take i xs ≡ in_octets little_endian i v → rest ≡ v / 256 ^ i
    → take (i + 1) (set xs i (bit_and rest 255)) ≡ in_octets little_endian (i + 1) v
up_turn i v rest xs h e r =
    take_more_set xs i (bit_and rest 255) h
    ∙ ap (λ (l : List ℕ). l ++ (bit_and rest 255 ∷ [])) e
    ∙ ap (λ (x : ℕ). in_octets little_endian i v ++ (x ∷ [])) (octet-of i v rest r)
    ∙ sym (little_next i v)

big_turn_down : (at k v : ℕ) (s : List ℕ) → at + 1 + k ≤ length s
    → set (laid (at + 1) (in_octets big_endian k v) s) at (v / 256 ^ k % 256) ≡ laid at (in_octets big_endian (k + 1) v) s
big_turn_down at k v s h =
    let xs = in_octets big_endian k v in
    let e : length xs ≡ k = length-octets big_endian k v in
    laid-before at xs s (v / 256 ^ k % 256) (omega arith) ∙ ap (λ (l : List ℕ). laid at l s) (sym (big_next k v))

-- the place counted down to `at`: the octets from place i on are written
module _ (at n i v : ℕ) (s : List ℕ) (low : at < i) (high : i ≤ at + n) (fits : at + n ≤ length s) where
  pub down_write : (rest : ℕ) → rest ≡ v / 256 ^ (at + n - i)
      → set (laid i (in_octets big_endian (at + n - i) v) s) (i - 1) (bit_and rest 255)
      ≡ laid (i - 1) (in_octets big_endian (at + n - (i - 1)) v) s
  down_write rest r =
      let k = at + n - i in
      let next : i ≡ i - 1 + 1 = omega arith in
      let more : k + 1 ≡ at + n - (i - 1) = omega arith in
      ap (λ (x : ℕ). set (laid i (in_octets big_endian k v) s) (i - 1) x) (octet-of k v rest r)
      ∙ ap (λ (m : ℕ). set (laid m (in_octets big_endian k v) s) (i - 1) (v / 256 ^ k % 256)) next
      ∙ big_turn_down (i - 1) k v s (omega arith)
      ∙ ap (λ (m : ℕ). laid (i - 1) (in_octets big_endian m v) s) more

  pub down-rest : v / 256 ^ (at + n - i) / 256 ≡ v / 256 ^ (at + n - (i - 1))
  down-rest =
      let more : at + n - i + 1 ≡ at + n - (i - 1) = omega arith in
      divided (at + n - i) v ∙ ap (λ (k : ℕ). v / 256 ^ k) more
