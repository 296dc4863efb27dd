-- Words in n octets each, one after the other, little-endian. Definitions and the statement only.
use Rattle.std.specs.Prelude.{ℕ, zero, suc, ◌+◌, ◌*◌, ◌^◌, ◌≤◌, ◌<◌, ◌≡◌, List, [], ◌∷◌, ◌++◌, length, get_or, drop}
use Rattle.base_laws.specs.Lists.{part}
use Rattle.base_octets.specs.Octets.{Octets}
use Rattle.replay_session.specs.Session.{field, field_at}

-- each word in n octets
unfoldable pub words_octets : ℕ → List ℕ → List ℕ
words_octets n [] = []
words_octets n (word ∷ words) = field n word ++ words_octets n words

-- the k words at the front of octets
unfoldable pub words_in : ℕ → ℕ → List ℕ → List ℕ
words_in n zero octets = []
words_in n (suc k) octets = field_at 0 n octets ∷ words_in n k (drop n octets)

-- words in n octets each, for any n: where each is, how long all are, there and back
pub record WordsInOctets : Type 0 where
  -- the word i is in n octets, from place n i on
  pub at : (n k : ℕ) (octets : List ℕ) (i : ℕ) → i < k → get_or (words_in n k octets) i 0 ≡ field_at (n * i) n octets
  -- how long both are
  pub long : (n : ℕ) (words : List ℕ) → length (words_octets n words) ≡ n * length words
  pub many : (n k : ℕ) (octets : List ℕ) → length (words_in n k octets) ≡ k
  -- words come back from their octets, and octets from their words
  pub back : (n : ℕ) (words : List ℕ) → ((i : ℕ) → get_or words i 0 < 256 ^ n) → words_in n (length words) (words_octets n words) ≡ words
  pub again : (n k : ℕ) (octets : List ℕ) → n * k ≤ length octets → Octets octets → words_octets n (words_in n k octets) ≡ part 0 (n * k) octets
