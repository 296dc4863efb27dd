-- Near, where our own received count is not a premise but what was counted. Definitions only.
use Rattle.std.specs.Prelude.{ℕ, ◌-◌, ◌%◌, ◌^◌, ◌<◌, ◌≡◌, List, [], ◌∷◌}
use Rattle.loss_session.specs.declared.Readings.{Readings}
use Rattle.loss_account.specs.Account.{Truth}

-- neighbours of a list
abbrev pub Apart : (ℕ → ℕ → Type 0) → ℕ → List ℕ → Type 0
Apart R x [] = Unit {0}
Apart R x (y ∷ ys) = R x y × Apart R y ys

abbrev pub Neighbours : (ℕ → ℕ → Type 0) → List ℕ → Type 0
Neighbours R [] = Unit {0}
Neighbours R (x ∷ xs) = Apart R x xs

-- the readings show these true counts of what the peer sent; nothing is said of our own count
abbrev pub PeerSent : List Readings → List ℕ → Type 0
PeerSent [] [] = Unit {0}
PeerSent [] (x ∷ xs) = ⊥
PeerSent (r ∷ rs) [] = ⊥
PeerSent (r ∷ rs) (x ∷ xs) = (r.txb ≡ x % 2 ^ 32) × PeerSent rs xs

-- the true counts of near: what the peer sent, and what we counted
abbrev pub beside : List ℕ → List ℕ → List Truth
beside [] ys = []
beside (x ∷ xs) [] = []
beside (x ∷ xs) (y ∷ ys) = record { sent = x; received = y } ∷ beside xs ys

-- fewer than 2^32 frames are counted from one to the next
pub record FewCounted (earlier later : ℕ) : Type 0 where
  pub few : later - earlier < 2 ^ 32
