-- The IDs in two octets each: the statement's sentences on them, and the turns of the two loops. Assumes nothing.
use Prim.Native.Nat.{ℕ, zero, suc, ◌+◌, ◌*◌, ◌^◌, ◌≤◌, ◌<◌}
use mathlib.Core.Path.{◌≡◌, refl, sym, ap, ◌∙◌}
use mathlib.Core.List.{List, [], ◌∷◌, ◌++◌, append-nil, append_assoc}
use native.Mathlib.Omega.{arith}
use native.Mathlib.Numerals.{add-one}
use lib.ListN.{length, get_or, set, take, drop, length-append, length-drop}
use lib.Seq.{drop_at, get_or-drop, take-suc, length-take-le}
use Rattle.base_laws.specs.Lists.{part, laid}
use Rattle.base_laws.proofs.Parts.{part_none, part-append, part-drop}
use Rattle.base_laws.proofs.Overlaid.{laid_none, laid_more, laid_next}
use Rattle.base_laws.proofs.Apart.{laid-whole}
use Rattle.base_octets.specs.Octets.{Octets}
use Rattle.base_numbers.specs.Numbers.{little_endian}
use Rattle.base_numbers.proofs.Laws.{length-octets, number-here, read_again}
use Rattle.stored_settings_body.specs.Body.{field, field_at, ids_octets, ids_in}

-- ── how many there are ──

pub ids-long : (ids : List ℕ) → length (ids_octets ids) ≡ 2 * length ids
unfolding ids_octets
ids-long [] = refl
ids-long (id ∷ ids) = rw (length-append, length-octets little_endian 2 id) (omega (arith, ids-long ids))

pub read-long : (n : ℕ) (octets : List ℕ) → length (ids_in n octets) ≡ n
unfolding ids_in
read-long zero octets = refl
read-long (suc n) octets = ap suc (read-long n (drop 2 octets))

-- ── where they stand ──

pub ids_at : (n : ℕ) (octets : List ℕ) (i : ℕ) → i < n → get_or (ids_in n octets) i 0 ≡ field_at (2 * i) 2 octets
unfolding ids_in
ids_at zero octets i h = absurd (omega arith)
ids_at (suc n) octets zero h = refl
ids_at (suc n) octets (suc i) h =
    let e : 2 + 2 * i ≡ 2 * suc i = omega arith in
    ids_at n (drop 2 octets) i (omega arith) ∙ rw (part-drop 2 (2 * i) 2 octets, e)

-- ── there and back ──

pub ids_back : (ids : List ℕ) → ((i : ℕ) → get_or ids i 0 < 2 ^ 16) → ids_in (length ids) (ids_octets ids) ≡ ids
unfolding ids_octets ids_in
ids_back [] small = refl
ids_back (id ∷ ids) small =
    let first = number-here little_endian 2 id [] (ids_octets ids) 0 refl (small 0) in
    rw (first, drop_at (field 2 id) (ids_octets ids) 2 (length-octets little_endian 2 id), ids_back ids (λ i. small (suc i)))

pub ids_again : (n : ℕ) (octets : List ℕ) → 2 * n ≤ length octets → Octets octets → ids_octets (ids_in n octets) ≡ part 0 (2 * n) octets
unfolding ids_octets ids_in
ids_again zero octets fits h = sym (part_none 0 octets)
ids_again (suc n) octets fits h =
    let rest = drop 2 octets in
    let e : 2 * suc n ≡ 2 + 2 * n = omega arith in
    let more : ids_octets (ids_in n rest) ≡ part 0 (2 * n) rest =
    ids_again n rest (rw length-drop (omega arith)) (λ k. rw (get_or-drop 2 octets k 0) (h (2 + k))) in
    rw (read_again little_endian 2 0 octets (omega arith) h, more, part-drop 2 0 (2 * n) octets, e, part-append 0 2 (2 * n) octets)

-- ── the loop that reads ──

read_more : (n : ℕ) (octets : List ℕ) → ids_in (suc n) octets ≡ ids_in n octets ++ (field_at (2 * n) 2 octets ∷ [])
unfolding ids_in
read_more zero octets = refl
read_more (suc n) octets =
    let e : 2 + 2 * n ≡ 2 * suc n = omega arith in
    rw (read_more n (drop 2 octets), part-drop 2 (2 * n) 2 octets, e)

pub read-start : (from l : List ℕ) → l ≡ laid 0 (ids_in 0 from) l
unfolding ids_in
read-start from l = sym (laid_none 0 l)

pub read_turn : (i v : ℕ) (from l : List ℕ) → i < length l → v ≡ field_at (2 * i) 2 from
    → set (laid 0 (ids_in i from) l) i v ≡ laid 0 (ids_in (i + 1) from) l
read_turn i v from l h e =
    let long = read-long i from in
    rw (add-one, read_more i from, ← e)
    (ap (λ (k : ℕ). set (laid 0 (ids_in i from) l) k v) (sym (omega (arith, long)))
    ∙ laid_more 0 (ids_in i from) l v (omega (arith, long)))

pub read_all : (i : ℕ) (from l : List ℕ) {x : List ℕ} → x ≡ laid 0 (ids_in i from) l → i ≡ length l → x ≡ ids_in (length l) from
read_all i from l e h = e ∙ laid-whole l (ids_in i from) i (sym h) (read-long i from) ∙ ap (λ (k : ℕ). ids_in k from) h

-- ── the loop that writes ──

octets-append : (l m : List ℕ) → ids_octets (l ++ m) ≡ ids_octets l ++ ids_octets m
unfolding ids_octets
octets-append [] m = refl
octets-append (id ∷ l) m = rw (octets-append l m) (sym (append_assoc (field 2 id) (ids_octets l) (ids_octets m)))

write_more : (i : ℕ) (ids : List ℕ) → i < length ids → ids_octets (take (i + 1) ids) ≡ ids_octets (take i ids) ++ field 2 (get_or ids i 0)
unfolding ids_octets
write_more i ids h =
    rw (add-one, take-suc ids i 0 h, octets-append (take i ids) (get_or ids i 0 ∷ []), append-nil (field 2 (get_or ids i 0)))

pub write_start : (at : ℕ) (ids l : List ℕ) → l ≡ laid at (ids_octets (take 0 ids)) l
unfolding ids_octets
write_start at ids l = sym (laid_none at l)

pub write_turn : (at i : ℕ) (ids l : List ℕ) → i < length ids → at + 2 * length ids ≤ length l
    → laid (at + 2 * i) (field 2 (get_or ids i 0)) (laid at (ids_octets (take i ids)) l) ≡ laid at (ids_octets (take (i + 1) ids)) l
write_turn at i ids l h fits =
    let id = get_or ids i 0 in
    let two = length-octets little_endian 2 id in
    let front = take i ids in
    let long : length (ids_octets front) ≡ 2 * i = ids-long front ∙ ap (λ (k : ℕ). 2 * k) (length-take-le i ids (omega arith)) in
    rw (write_more i ids h) (laid_next at (2 * i) (ids_octets front) (field 2 id) l long (omega arith))
