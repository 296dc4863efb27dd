-- A box that meets demand 3 side by side meets it for all four readings at once. Assumes nothing.
use Prim.Native.Nat.{ℕ, zero, suc, ◌-◌}
use mathlib.Core.Path.{◌≡◌, refl, sym, ap, ap₂, ◌∙◌}
use mathlib.Core.List.{List, [], ◌∷◌, ◌++◌, map}
use lib.IntN.{pos}
use lib.ListN.{length, replicate, length-map}
use Rattle.base_laws.specs.Lists.{every}
use Rattle.loss_session.specs.declared.Readings.{Readings}
use Rattle.loss_session.specs.Session.{LossEnd, near, far}
use Rattle.loss_account.specs.Account.{Truth, lost, losses}
use Rattle.loss_account.specs.Demand3.{Shows, Counts, truth_of, shown, Steady}
use Rattle.loss_account.proofs.Both.{shows}
use Rattle.state_view.specs.State.{State}
use Rattle.paper_said.specs.Calls.{Call, Answer, Box}
use Rattle.paper_said.specs.Calls as told
use Rattle.paper_loss.specs.Runs.{Event}
use Rattle.paper_loss.specs.Replies.{most, replies_in, accepted, refused, loss, accounted, SinceClear}
use Rattle.paper_loss.specs.Demand3.{said, Agrees, Demand3}
use Rattle.paper_loss.specs.Both.{measurements, tells, BothAgree, AtOnce}
use Rattle.paper_loss.proofs.Joined.{heard, pairs, pairs-seen, all-heard}

shows_along : (d : LossEnd) (rs qs : List Readings) (us : List Truth) → rs ≡ qs → Shows d qs us → Shows d rs us
shows_along d rs qs us e h = rw e h

pairs_fives : (k : ℕ) → pairs (replicate k (refused 5)) (replicate k (refused 5)) ≡ replicate k (told.refused 5)
pairs_fives zero = refl
pairs_fives (suc k) = ap (λ (l : List Answer). told.refused 5 ∷ l) (pairs_fives k)

module _ (k : ℕ) where
  pairs-measured : (t : Counts) (ts : List Counts)
      → pairs (map loss (losses (truth_of near t) (map (truth_of near) ts)) ++ replicate k (refused 5))
      (map loss (losses (truth_of far t) (map (truth_of far) ts)) ++ replicate k (refused 5))
      ≡ measurements t ts ++ replicate k (told.refused 5)
  unfolding losses measurements
  pairs-measured t [] = pairs_fives k
  pairs-measured t (u ∷ us) =
      ap (λ (l : List Answer). told.loss (lost (truth_of near t) (truth_of near u)) (lost (truth_of far t) (truth_of far u)) ∷ l)
      (pairs-measured u us)

  pairs-tells : (ts : List Counts)
      → pairs (map loss (accounted (map (truth_of near) ts)) ++ replicate k (refused 5))
      (map loss (accounted (map (truth_of far) ts)) ++ replicate k (refused 5))
      ≡ tells ts ++ replicate k (told.refused 5)
  pairs-tells [] = pairs_fives k
  pairs-tells (t ∷ ts) = ap (λ (l : List Answer). told.loss (pos 0) (pos 0) ∷ l) (pairs-measured t ts)

module _ (B : Box) (f : Demand3 B) (n : ℕ) (s : State) (cs : List Call) (es : List Event) (ts : List Counts) (c : SinceClear n s cs es)
    (e : accepted n es ≡ map shown ts) (steady : Steady ts) where
  agrees : (d : LossEnd) → Agrees B d n s cs es (map (truth_of d) ts)
  agrees d =
      f.side d n s cs es (map (truth_of d) ts) c (shows_along d (accepted n es) (map shown ts) (map (truth_of d) ts) e (shows d ts))
      (steady d)

  both : BothAgree B n s cs es ts
  both =
      let k = length (replies_in n es) - most in
      record {
        results =
            sym (pairs-seen (said B s cs es) (ap (every heard) (agrees near).results ∙ all-heard (accounted (map (truth_of near) ts)) k))
            ∙ ap₂ pairs (agrees near).results (agrees far).results
            ∙ pairs-tells k ts;
        totals = λ d. (agrees d).totals;
        intervals = f.intervals n s cs es c ∙ ap (λ (l : List Readings). length l - 1) e ∙ ap (λ (m : ℕ). m - 1) (length-map ts shown);
      }

pub at_once : AtOnce
at_once B f n s cs es ts c e steady = both B f n s cs es ts c e steady
