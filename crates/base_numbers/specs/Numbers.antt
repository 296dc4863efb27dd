-- A number in n octets, for every n and both orders. The paper, "Numbers": wire numbers are big-endian; "Stored records": those are
-- little-endian. Definitions and statements only.
use Rattle.std.specs.Prelude.{ℕ, zero, suc, ◌+◌, ◌*◌, ◌/◌, ◌%◌, ◌^◌, ◌≤◌, ◌<◌, ◌≡◌, List, [], ◌∷◌, reverse, ◌⊎◌, length, get_or}
use Rattle.base_laws.specs.Lists.{part, laid}
use Rattle.base_octets.specs.Octets.{Octets}

-- which octet comes first: the lowest or the highest
pub data Order : Type 0 where
  little_endian : Order
  big_endian : Order

-- the number that octets spell, the first the lowest
unfoldable pub number_lowest_first : List ℕ → ℕ
number_lowest_first [] = 0
number_lowest_first (x ∷ xs) = x + 256 * number_lowest_first xs

-- v in n octets, the lowest first; what does not fit in them is left out
unfoldable pub octets_lowest_first : ℕ → ℕ → List ℕ
octets_lowest_first zero v = []
octets_lowest_first (suc n) v = v % 256 ∷ octets_lowest_first n (v / 256)

-- the number that octets spell in an order: big-endian is little-endian from the other end
unfoldable pub number : Order → List ℕ → ℕ
number little_endian xs = number_lowest_first xs
number big_endian xs = number_lowest_first (reverse xs)

-- v in n octets of an order
unfoldable pub in_octets : Order → ℕ → ℕ → List ℕ
in_octets little_endian n v = octets_lowest_first n v
in_octets big_endian n v = reverse (octets_lowest_first n v)

-- r is the number in the n octets of s at a place
pub record NumberAt (o : Order) (s : List ℕ) (at n r : ℕ) : Type 0 where
  pub is : r ≡ number o (part at n s)
  pub small : r < 256 ^ n

-- numbers in n octets come back, each law once for both orders and every n
pub record Numbers : Type 0 where
  -- what each order is: no octets are 0; the first of several is the highest, or the lowest
  pub nothing : (o : Order) → number o [] ≡ 0
  pub highest_first : (x : ℕ) (xs : List ℕ) → number big_endian (x ∷ xs) ≡ x * 256 ^ length xs + number big_endian xs
  pub lowest_first : (x : ℕ) (xs : List ℕ) → number little_endian (x ∷ xs) ≡ x + 256 * number little_endian xs
  -- n octets are written; what does not fit in them makes no difference
  pub size : (o : Order) (n v : ℕ) → length (in_octets o n v) ≡ n
  pub octets : (o : Order) (n v : ℕ) → Octets (in_octets o n v)
  pub left_out : (o : Order) (n v : ℕ) → in_octets o n (v % 256 ^ n) ≡ in_octets o n v
  -- n octets are a number below 256 ^ n
  pub below : (o : Order) (xs : List ℕ) → Octets xs → number o xs < 256 ^ length xs
  -- a number below 256 ^ n comes back from its n octets, and n octets from their number
  pub back : (o : Order) (n v : ℕ) → v < 256 ^ n → number o (in_octets o n v) ≡ v
  pub octets_back : (o : Order) (xs : List ℕ) → Octets xs → in_octets o (length xs) (number o xs) ≡ xs
  -- what is put at a place reads back there, and every other octet is as it was
  pub put_back : (o : Order) (n at v : ℕ) (s : List ℕ) → at + n ≤ length s → v < 256 ^ n → number o (part at n (laid at (in_octets o n v) s)) ≡ v
  pub put_others : (o : Order) (n at v : ℕ) (s : List ℕ) (i : ℕ) → at + n ≤ length s → (i < at) ⊎ (at + n ≤ i)
      → get_or (laid at (in_octets o n v) s) i 0 ≡ get_or s i 0
  -- and what is read at a place writes back as the octets that are there
  pub read_again : (o : Order) (n at : ℕ) (s : List ℕ) → at + n ≤ length s → Octets s → in_octets o n (number o (part at n s)) ≡ part at n s
