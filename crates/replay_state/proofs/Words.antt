-- The statement of specs/Words.antt, and the turns of the two loops. Assumes nothing.
use Prim.Native.Nat.{ℕ, zero, suc, ◌+◌, ◌*◌, ◌^◌, ◌≤◌, ◌<◌}
use mathlib.Core.Path.{◌≡◌, refl, sym, ap, ◌∙◌}
use mathlib.Core.List.{List, [], ◌∷◌, ◌++◌, append-nil, append_assoc}
use native.Mathlib.Omega.{arith}
use native.Mathlib.Nat.{mul-zero, mul-suc, mul-le-mul_left}
use native.Mathlib.Numerals.{add-one}
use lib.ListN.{length, get_or, set, take, drop, length-append, length-drop}
use lib.Seq.{drop_at, get_or-drop, take-suc, length-take-le}
use Rattle.base_laws.specs.Lists.{part, laid}
use Rattle.base_laws.proofs.Parts.{part_none, part-append, part-drop}
use Rattle.base_laws.proofs.Overlaid.{laid_none, laid_more, laid_next}
use Rattle.base_laws.proofs.Apart.{laid-whole}
use Rattle.base_octets.specs.Octets.{Octets}
use Rattle.base_numbers.specs.Numbers.{little_endian}
use Rattle.base_numbers.proofs.Laws.{length-octets, number-here, read_again}
use Rattle.replay_session.specs.Session.{field, field_at}
use Rattle.replay_state.specs.Words.{words_octets, words_in, WordsInOctets}

module _ (n : ℕ) where
  -- one place more is n octets more
  pub next_place : (i : ℕ) → n * (i + 1) ≡ n * i + n
  next_place i = rw add-one (mul-suc n i)

  -- and what is left has room for it
  pub place-fits : (i k : ℕ) → i < k → n * i + n ≤ n * k
  place-fits i k h = rw (← next_place i) (mul-le-mul_left n (omega arith))

  -- ── how many there are ──

  pub words_long : (words : List ℕ) → length (words_octets n words) ≡ n * length words
  unfolding words_octets
  words_long [] = sym (mul-zero n)
  words_long (word ∷ words) =
      rw (length-append, length-octets little_endian n word, words_long words, mul-suc n (length words)) (omega arith)

  pub words-many : (k : ℕ) (octets : List ℕ) → length (words_in n k octets) ≡ k
  unfolding words_in
  words-many zero octets = refl
  words-many (suc k) octets = ap suc (words-many k (drop n octets))

  -- ── where they stand ──

  pub words-at : (k : ℕ) (octets : List ℕ) (i : ℕ) → i < k → get_or (words_in n k octets) i 0 ≡ field_at (n * i) n octets
  unfolding words_in
  words-at zero octets i h = absurd (omega arith)
  words-at (suc k) octets zero h = rw (mul-zero n)
  words-at (suc k) octets (suc i) h =
      let e : n + n * i ≡ n * suc i = rw (mul-suc n i) (omega arith) in
      words-at k (drop n octets) i (omega arith) ∙ rw (part-drop n (n * i) n octets, e)

  -- ── there and back ──

  pub words_back : (words : List ℕ) → ((i : ℕ) → get_or words i 0 < 256 ^ n) → words_in n (length words) (words_octets n words) ≡ words
  unfolding words_octets words_in
  words_back [] small = refl
  words_back (word ∷ words) small =
      let first = number-here little_endian n word [] (words_octets n words) 0 refl (small 0) in
      rw (first, drop_at (field n word) (words_octets n words) n (length-octets little_endian n word), words_back words (λ i. small (suc i)))

  pub words-again : (k : ℕ) (octets : List ℕ) → n * k ≤ length octets → Octets octets
      → words_octets n (words_in n k octets) ≡ part 0 (n * k) octets
  unfolding words_octets words_in
  words-again zero octets fits h = rw (mul-zero n) (sym (part_none 0 octets))
  words-again (suc k) octets fits h =
      let rest = drop n octets in
      let e : n * suc k ≡ n + n * k = rw (mul-suc n k) (omega arith) in
      let same : n + 0 ≡ 0 + n = omega arith in
      let more : words_octets n (words_in n k rest) ≡ part 0 (n * k) rest =
      words-again k rest (rw length-drop (omega (arith, e))) (λ i. rw (get_or-drop n octets i 0) (h (n + i))) in
      rw (
        read_again little_endian n 0 octets (omega (arith, e)) h,
        more,
        part-drop n 0 (n * k) octets,
        e,
        part-append 0 n (n * k) octets,
        same,
      )

  -- ── the loop that reads ──

  read_more : (k : ℕ) (octets : List ℕ) → words_in n (suc k) octets ≡ words_in n k octets ++ (field_at (n * k) n octets ∷ [])
  unfolding words_in
  read_more zero octets = rw (mul-zero n)
  read_more (suc k) octets =
      let e : n + n * k ≡ n * suc k = rw (mul-suc n k) (omega arith) in
      rw (read_more k (drop n octets), part-drop n (n * k) n octets, e)

  pub read-start : (at : ℕ) (from l : List ℕ) → l ≡ laid 0 (words_in n 0 (drop at from)) l
  unfolding words_in
  read-start at from l = sym (laid_none 0 l)

  pub read_turn : (at i v : ℕ) (from l : List ℕ) → i < length l → v ≡ field_at (at + n * i) n from
      → set (laid 0 (words_in n i (drop at from)) l) i v ≡ laid 0 (words_in n (i + 1) (drop at from)) l
  read_turn at i v from l h e =
      let octets = drop at from in
      let long = words-many i octets in
      let here : v ≡ field_at (n * i) n octets = e ∙ rw (part-drop at (n * i) n from) in
      rw (add-one, read_more i octets, ← here)
      (ap (λ (k : ℕ). set (laid 0 (words_in n i octets) l) k v) (sym (omega (arith, long)))
      ∙ laid_more 0 (words_in n i octets) l v (omega (arith, long)))

  pub read_all : (at i : ℕ) (from l : List ℕ) {x : List ℕ} → x ≡ laid 0 (words_in n i (drop at from)) l → i ≡ length l
      → x ≡ words_in n (length l) (drop at from)
  read_all at i from l e h =
      e ∙ laid-whole l (words_in n i (drop at from)) i (sym h) (words-many i (drop at from)) ∙ ap (λ (k : ℕ). words_in n k (drop at from)) h

  -- ── the loop that writes ──

  octets-append : (l m : List ℕ) → words_octets n (l ++ m) ≡ words_octets n l ++ words_octets n m
  unfolding words_octets
  octets-append [] m = refl
  octets-append (word ∷ l) m = rw (octets-append l m) (sym (append_assoc (field n word) (words_octets n l) (words_octets n m)))

  write_more : (i : ℕ) (words : List ℕ) → i < length words
      → words_octets n (take (i + 1) words) ≡ words_octets n (take i words) ++ field n (get_or words i 0)
  unfolding words_octets
  write_more i words h =
      rw (add-one, take-suc words i 0 h, octets-append (take i words) (get_or words i 0 ∷ []), append-nil (field n (get_or words i 0)))

  pub write_start : (at : ℕ) (words l : List ℕ) → l ≡ laid at (words_octets n (take 0 words)) l
  unfolding words_octets
  write_start at words l = sym (laid_none at l)

  pub write_turn : (at i : ℕ) (words l : List ℕ) → i < length words → at + n * length words ≤ length l
      → laid (at + n * i) (field n (get_or words i 0)) (laid at (words_octets n (take i words)) l) ≡ laid at
      (words_octets n (take (i + 1) words)) l
  write_turn at i words l h fits =
      let word = get_or words i 0 in
      let each = length-octets little_endian n word in
      let room = place-fits i (length words) h in
      let front = take i words in
      let long : length (words_octets n front) ≡ n * i = words_long front ∙ ap (λ (k : ℕ). n * k) (length-take-le i words (omega arith)) in
      rw (write_more i words h) (laid_next at (n * i) (words_octets n front) (field n word) l long (omega arith))

pub words_in-octets : WordsInOctets
words_in-octets = record { at = words-at; long = words_long; many = words-many; back = words_back; again = words-again }
