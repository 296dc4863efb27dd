-- Any step that meets demand 3 side by side meets it for both sides together. Assumes nothing.
use Prim.Native.Nat.{ℕ, ◌-◌, ◌≤◌}
use mathlib.Core.Path.{◌≡◌, refl, sym, ap, ap₂, ◌∙◌}
use mathlib.Core.List.{List, [], ◌∷◌, map}
use native.Mathlib.Omega.{arith}
use mathlib.Core.Bool.{Bool, true, false}
use lib.Dec.{eqb}
use lib.ListN.{length, length-map}
use Rattle.std.specs.Prelude.{Result, Ok, Err, Option, Some, None}
use Rattle.loss_reading.specs.Losses.{losses_of}
use Rattle.loss_reading.specs.declared.LossRefusal.{LossRefusal}
use Rattle.loss_reading.specs.declared.Losses.{Losses}
use Rattle.loss_reading.specs.declared.LossRefusal.TheVariants.{NotWellFormed, Full}
use Rattle.loss_session.specs.Session.{LossEnd, near, far, cleared_session, most_readings}
use Rattle.loss_reading.specs.Reading.{after_reading}
use Rattle.loss_account.specs.Account.{lost, losses}
use Rattle.loss_account.specs.Demand3.{Step, answers, Seen, refused, kept, loss, seen, accounted, Shows, Demand3, Counts, truth_of}
use Rattle.loss_account.specs.Demand3.{shown, measurements, accounted_both, Demand3Both}
use Rattle.loss_account.proofs.Meets.{meets}

-- an answer from what it says of the two directions: `which` tells one refusal from the other; two that do not fit together never come up
abbrev which : Bool → Result (Option Losses) LossRefusal
which true = Err Full
which false = Err NotWellFormed

abbrev joined : Seen → Seen → Result (Option Losses) LossRefusal
joined (refused n) f = which (eqb n 5)
joined kept f = Ok None
joined (loss n) (loss f) = Ok (Some (losses_of n f))
joined (loss n) kept = Ok None
joined (loss n) (refused k) = Ok None

abbrev pub pairs : List Seen → List Seen → List (Result (Option Losses) LossRefusal)
pairs [] ys = []
pairs (x ∷ xs) [] = []
pairs (x ∷ xs) (y ∷ ys) = joined x y ∷ pairs xs ys

joined-seen : (a : Result (Option Losses) LossRefusal) → joined (seen near a) (seen far a) ≡ a
joined-seen (Err NotWellFormed) = refl
joined-seen (Err Full) = refl
joined-seen (Ok None) = refl
joined-seen (Ok (Some l)) = refl

pub pairs-seen : (xs : List (Result (Option Losses) LossRefusal)) → pairs (map (seen near) xs) (map (seen far) xs) ≡ xs
pairs-seen [] = refl
pairs-seen (x ∷ xs) = ap₂ ◌∷◌ (joined-seen x) (pairs-seen xs)

-- readings of true counts show them, on either side
pub shows : (d : LossEnd) (ts : List Counts) → Shows d (map shown ts) (map (truth_of d) ts)
shows d [] = tt
shows near (t ∷ ts) = (refl, refl, shows near ts)
shows far (t ∷ ts) = (refl, refl, shows far ts)

pairs-losses : (t : Counts) (ts : List Counts)
    → pairs (map loss (losses (truth_of near t) (map (truth_of near) ts))) (map loss (losses (truth_of far t) (map (truth_of far) ts)))
    ≡ measurements t ts
unfolding losses measurements
pairs-losses t [] = refl
pairs-losses t (u ∷ us) =
    ap (λ (l : List (Result (Option Losses) LossRefusal)). Ok (Some (losses_of (lost (truth_of near t) (truth_of near u)) (lost (truth_of far t) (truth_of far u)))) ∷ l)
    (pairs-losses u us)

pairs_account : (ts : List Counts) → pairs (accounted (map (truth_of near) ts)) (accounted (map (truth_of far) ts)) ≡ accounted_both ts
unfolding accounted accounted_both
pairs_account [] = refl
pairs_account (t ∷ ts) = ap (λ (l : List (Result (Option Losses) LossRefusal)). (Ok None) ∷ l) (pairs-losses t ts)

pub both : (f : Step) → Demand3 f → Demand3Both f
both f m ts few steady =
    let k : length (map shown ts) ≤ most_readings = omega (arith, length-map ts shown) in
    let n = m.side near (map shown ts) (map (truth_of near) ts) k (shows near ts) (steady near) in
    let x = m.side far (map shown ts) (map (truth_of far) ts) k (shows far ts) (steady far) in
    record {
      results = sym (pairs-seen (answers f cleared_session (map shown ts))) ∙ ap₂ pairs n.results x.results ∙ pairs_account ts;
      totals = λ d. (m.side d (map shown ts) (map (truth_of d) ts) k (shows d ts) (steady d)).totals;
      intervals = m.intervals (map shown ts) k ∙ ap (λ (i : ℕ). i - 1) (length-map ts shown);
    }

pub ours : Demand3Both after_reading
ours = both after_reading meets
