-- An answer is what it says of the two directions. Assumes nothing.
use Prim.Native.Nat.{ℕ, zero, suc}
use mathlib.Core.Path.{◌≡◌, refl, ap₂}
use mathlib.Core.Bool.{Bool, true, false, false≢true}
use mathlib.Core.List.{List, [], ◌∷◌, ◌++◌, map}
use lib.IntN.{ℤ}
use lib.ListN.{replicate}
use Rattle.base_laws.specs.Lists.{every}
use Rattle.base_laws.proofs.Tests.{split}
use Rattle.loss_session.specs.Session.{near, far}
use Rattle.paper_said.specs.Calls.{Answer}
use Rattle.paper_said.specs.Calls as told
use Rattle.paper_loss.specs.Replies.{Seen, refused, loss, silence, seen}

abbrev pub heard : Seen → Bool
heard (refused n) = true
heard (loss z) = true
heard silence = false

-- two that do not fit together never come up
abbrev joined : Seen → Seen → Answer
joined (refused n) f = told.refused n
joined (loss n) (loss f) = told.loss n f
joined (loss n) (refused k) = told.passed
joined (loss n) silence = told.passed
joined silence f = told.passed

joined-seen : (x : Answer) → heard (seen near x) ≡ true → joined (seen near x) (seen far x) ≡ x
joined-seen (told.refused n) e = refl
joined-seen (told.loss n f) e = refl
joined-seen (told.dropped n) e = absurd (false≢true e)
joined-seen told.passed e = refl
joined-seen told.taken e = absurd (false≢true e)
joined-seen (told.written n) e = absurd (false≢true e)
joined-seen (told.delay t) e = absurd (false≢true e)
joined-seen (told.delays t f n) e = absurd (false≢true e)
joined-seen told.done e = absurd (false≢true e)
joined-seen (told.standing r) e = absurd (false≢true e)

abbrev pub pairs : List Seen → List Seen → List Answer
pairs [] ys = []
pairs (x ∷ xs) [] = []
pairs (x ∷ xs) (y ∷ ys) = joined x y ∷ pairs xs ys

pub pairs-seen : (xs : List Answer) → every heard (map (seen near) xs) ≡ true → pairs (map (seen near) xs) (map (seen far) xs) ≡ xs
unfolding every
pairs-seen [] e = refl
pairs-seen (x ∷ xs) e =
    let h = split (heard (seen near x)) (every heard (map (seen near) xs)) e in
    ap₂ ◌∷◌ (joined-seen x h.0) (pairs-seen xs h.1)

fives_heard : (k : ℕ) → every heard (replicate k (refused 5)) ≡ true
unfolding every
fives_heard zero = refl
fives_heard (suc k) = fives_heard k

pub all-heard : (zs : List ℤ) (k : ℕ) → every heard (map loss zs ++ replicate k (refused 5)) ≡ true
unfolding every
all-heard [] k = fives_heard k
all-heard (z ∷ zs) k = all-heard zs k
