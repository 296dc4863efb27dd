-- Our own received count never falls, and the readings show it: near needs no premise on it but that it grows by less than 2^32.
-- Assumes nothing.
use Prim.Native.Nat.{ℕ, zero, suc, ◌+◌, ◌≤◌}
use mathlib.Core.Path.{refl}
use mathlib.Core.List.{List, [], ◌∷◌}
use native.Mathlib.Omega.{arith}
use lib.ListN.{take}
use Rattle.loss_session.specs.Session.{near}
use Rattle.loss_account.specs.Account.{Grows, GoesOn, Sound}
use Rattle.loss_account.specs.Demand3.{Shows}
use Rattle.paper_loss.specs.Runs.{Event, reply, received, sent, other}
use Rattle.paper_loss.specs.Replies.{ours_at, replies_in}
use Rattle.paper_loss.specs.Own.{Apart, Neighbours, PeerSent, beside, FewCounted}

-- the readings show what the peer sent beside what we counted
pub shown : (k : ℕ) (es : List Event) (n : ℕ) (xs : List ℕ) → PeerSent (take k (replies_in n es)) xs
    → Shows near (take k (replies_in n es)) (beside xs (take k (ours_at n es)))
unfolding replies_in ours_at
shown zero es n [] p = tt
shown zero es n (x ∷ xs) p = absurd p
shown (suc k) [] n [] p = tt
shown (suc k) [] n (x ∷ xs) p = absurd p
shown (suc k) (reply txf rxf txb ∷ es) n [] p = absurd p
shown (suc k) (reply txf rxf txb ∷ es) n (x ∷ xs) p = (p.0, refl, shown k es n xs p.1)
shown (suc k) (received ∷ es) n xs p = shown (suc k) es (n + 1) xs p
shown (suc k) (sent ∷ es) n xs p = shown (suc k) es n xs p
shown (suc k) (other ∷ es) n xs p = shown (suc k) es n xs p

-- our count does not fall
rising_from : (k : ℕ) (es : List Event) (m n : ℕ) → m ≤ n → Apart ◌≤◌ m (take k (ours_at n es))
unfolding ours_at
rising_from zero es m n h = tt
rising_from (suc k) [] m n h = tt
rising_from (suc k) (reply txf rxf txb ∷ es) m n h = (h, rising_from k es n n (omega arith))
rising_from (suc k) (received ∷ es) m n h = rising_from (suc k) es m (n + 1) (omega arith)
rising_from (suc k) (sent ∷ es) m n h = rising_from (suc k) es m n h
rising_from (suc k) (other ∷ es) m n h = rising_from (suc k) es m n h

pub rising : (k : ℕ) (es : List Event) (n : ℕ) → Neighbours ◌≤◌ (take k (ours_at n es))
unfolding ours_at
rising zero es n = tt
rising (suc k) [] n = tt
rising (suc k) (reply txf rxf txb ∷ es) n = rising_from k es n n (omega arith)
rising (suc k) (received ∷ es) n = rising (suc k) es (n + 1)
rising (suc k) (sent ∷ es) n = rising (suc k) es n
rising (suc k) (other ∷ es) n = rising (suc k) es n

goes_on : (x y : ℕ) (xs ys : List ℕ) → Apart Grows x xs → Apart ◌≤◌ y ys → Apart FewCounted y ys
    → GoesOn (record { sent = x; received = y }) (beside xs ys)
goes_on x y [] ys g h k = tt
goes_on x y (u ∷ xs) [] g h k = tt
goes_on x y (u ∷ xs) (v ∷ ys) g h k =
    (g.0, record { rises = h.0; small = omega (arith, k.0.few) }, goes_on u v xs ys g.1 h.1 k.1)

pub sound : (xs ys : List ℕ) → Neighbours Grows xs → Neighbours ◌≤◌ ys → Neighbours FewCounted ys → Sound (beside xs ys)
sound [] ys g h k = tt
sound (x ∷ xs) [] g h k = tt
sound (x ∷ xs) (y ∷ ys) g h k = goes_on x y xs ys g h k
