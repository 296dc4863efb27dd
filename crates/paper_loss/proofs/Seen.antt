-- What is seen of a loss session by its answers, from what the session tells. Assumes nothing.
use Prim.Native.Nat.{ℕ, zero, suc}
use mathlib.Core.Path.{◌≡◌, refl, ap, ap₂}
use mathlib.Core.List.{List, [], ◌∷◌, map}
use lib.IntN.{ℤ, pos}
use lib.ListN.{take, replicate}
use Rattle.std.specs.Prelude.{Result, Ok, Err, Option, Some, None}
use Rattle.loss_reading.specs.Losses.{losses_of}
use Rattle.loss_reading.specs.declared.LossRefusal.{LossRefusal}
use Rattle.loss_reading.specs.declared.Losses.{Losses}
use Rattle.loss_reading.specs.declared.LossRefusal.TheVariants as answer
use Rattle.loss_session.specs.Session.{LossEnd, near, far}
use Rattle.loss_account.specs.Account.{Truth, losses}
use Rattle.loss_account.specs.Demand3 as account
use Rattle.paper_said.specs.Calls.{Answer}
use Rattle.paper_loss.specs.Runs.{Each}
use Rattle.paper_loss.specs.Replies.{Seen, refused, loss, seen, accounted}
use Rattle.paper_loss.specs.Demand3.{Measured}
use Rattle.paper_loss.proofs.Step.{told_of}

-- ── one direction of an answer, in the account's words and in the box's ──

abbrev pub in_box : account.Seen → Seen
in_box (account.refused n) = refused n
in_box account.kept = loss (pos 0)
in_box (account.loss z) = loss z

told-seen : (d : LossEnd) (x : Result (Option Losses) LossRefusal) → seen d (told_of x) ≡ in_box (account.seen d x)
told-seen near (Err answer.NotWellFormed) = refl
told-seen near (Err answer.Full) = refl
told-seen near (Ok None) = refl
told-seen near (Ok (Some l)) = refl
told-seen far (Err answer.NotWellFormed) = refl
told-seen far (Err answer.Full) = refl
told-seen far (Ok None) = refl
told-seen far (Ok (Some l)) = refl

pub all_seen : (d : LossEnd) (xs : List (Result (Option Losses) LossRefusal)) → map (seen d) (map told_of xs) ≡ map in_box (map (account.seen d) xs)
all_seen d [] = refl
all_seen d (x ∷ xs) = ap₂ ◌∷◌ (told-seen d x) (all_seen d xs)

all-losses : (zs : List ℤ) → map in_box (map account.loss zs) ≡ map loss zs
all-losses [] = refl
all-losses (z ∷ zs) = ap (λ (l : List Seen). loss z ∷ l) (all-losses zs)

pub all-accounted : (ts : List Truth) → map in_box (account.accounted ts) ≡ map loss (accounted ts)
unfolding account.accounted
all-accounted [] = refl
all-accounted (t ∷ ts) = ap (λ (l : List Seen). loss (pos 0) ∷ l) (all-losses (losses t ts))

pub all-full : (d : LossEnd) (k : ℕ) → map in_box (map (account.seen d) (replicate k (Err answer.Full))) ≡ replicate k (refused 5)
all-full d zero = refl
all-full near (suc k) = ap (λ (l : List Seen). refused 5 ∷ l) (all-full near k)
all-full far (suc k) = ap (λ (l : List Seen). refused 5 ∷ l) (all-full far k)

pub take-map : {A B : Type 0} (g : A → B) (k : ℕ) (xs : List A) → take k (map g xs) ≡ map g (take k xs)
take-map g zero xs = refl
take-map g (suc k) [] = refl
take-map g (suc k) (x ∷ xs) = ap (λ (l : List _). g x ∷ l) (take-map g k xs)

-- what holds of each of a list holds of each of the same list
pub each_of : (xs ys : List Answer) → xs ≡ ys → Each Measured ys → Each Measured xs
each_of xs ys e h = rw e h
