-- A step that meets demand 3 answers any number of readings: the first 1,000,000,001 by the account, all others with 5. Assumes nothing.
use Prim.Native.Nat.{ℕ, zero, suc, ◌-◌, ◌≤◌, ◌<◌}
use mathlib.Core.Path.{◌≡◌, refl, sym, ap, ap₂, ◌∙◌}
use mathlib.Core.List.{List, [], ◌∷◌, ◌++◌, append-nil}
use mathlib.Core.Bool.{Bool, true, false}
use native.Mathlib.Omega.{arith}
use lib.Dec.{leb}
use lib.ListN.{length, take, drop, replicate, take-append-drop, length-drop}
use lib.Seq.{take_all, length-take-le}
use borrow.Author.Tests.{leb-true, leb-false}
use Rattle.std.specs.Prelude.{Result, Err, Option}
use Rattle.base_clock.specs.Run.{after}
use Rattle.loss_session.specs.declared.Readings.{Readings}
use Rattle.loss_session.specs.declared.LossSession.{LossSession}
use Rattle.loss_reading.specs.declared.LossRefusal.{LossRefusal}
use Rattle.loss_reading.specs.declared.Losses.{Losses}
use Rattle.loss_reading.specs.declared.LossRefusal.TheVariants.{Full}
use Rattle.loss_reading.specs.declared.Updated.{Updated}
use Rattle.loss_session.specs.Session.{cleared_session}
use Rattle.loss_account.specs.Demand3.{Step, answers, leaves, Demand3}
use Rattle.paper_loss.specs.Replies.{most}

module _ (f : Step) where
  -- the first k answers are those to the first k readings
  pub answers-take : (k : ℕ) (rs : List Readings) (s : LossSession) → take k (answers f s rs) ≡ answers f s (take k rs)
  unfolding answers
  answers-take zero rs s = refl
  answers-take (suc k) [] s = refl
  answers-take (suc k) (r ∷ rs) s = ap (λ (l : List (Result (Option Losses) LossRefusal)). (f s r).answer ∷ l) (answers-take k rs (f s r).session)

  answers-append : (xs ys : List Readings) (s : LossSession) → answers f s (xs ++ ys) ≡ answers f s xs ++ answers f (leaves f s xs) ys
  unfolding answers after
  answers-append [] ys s = refl
  answers-append (x ∷ xs) ys s = ap (λ (l : List (Result (Option Losses) LossRefusal)). (f s x).answer ∷ l) (answers-append xs ys (f s x).session)

  leaves-append : (xs ys : List Readings) (s : LossSession) → leaves f s (xs ++ ys) ≡ leaves f (leaves f s xs) ys
  unfolding after
  leaves-append [] ys s = refl
  leaves-append (x ∷ xs) ys s = leaves-append xs ys (f s x).session

  module _ (s : LossSession) (full : (r : Readings) → f s r ≡ record { answer = Err Full; session = s }) where
    full-answers : (ys : List Readings) → answers f s ys ≡ replicate (length ys) (Err Full)
    unfolding answers
    full-answers [] = refl
    full-answers (y ∷ ys) =
        ap₂ ◌∷◌ (ap (λ (u : Updated). u.answer) (full y)) (ap (λ (u : Updated). answers f u.session ys) (full y) ∙ full-answers ys)

    full-left : (ys : List Readings) → leaves f s ys ≡ s
    unfolding after
    full-left [] = refl
    full-left (y ∷ ys) = ap (λ (u : Updated). leaves f u.session ys) (full y) ∙ full-left ys

pub record Cut (f : Step) (rs : List Readings) : Type 0 where
  pub said : answers f cleared_session rs ≡ answers f cleared_session (take most rs) ++ replicate (length rs - most) (Err Full)
  pub left : leaves f cleared_session rs ≡ leaves f cleared_session (take most rs)
  pub few : length (take most rs) ≤ most

pub cut : (f : Step) → Demand3 f → (rs : List Readings) → Cut f rs
cut f m rs = go (leb (length rs) most) refl
  where
    go : (b : Bool) → leb (length rs) most ≡ b → Cut f rs
    go true e =
        let h : length rs ≤ most = leb-true (length rs) most e in
        let z : length rs - most ≡ 0 = omega arith in
        let w : take most rs ≡ rs = take_all most rs h in
        let l : length (take most rs) ≡ length rs = ap length w in
        record {
          said = rw (w, z) (sym (append-nil (answers f cleared_session rs)));
          left = ap (leaves f cleared_session) (sym w);
          few = omega arith;
        }
    go false e =
        let h : most < length rs = leb-false (length rs) most e in
        let l : length (take most rs) ≡ most = length-take-le most rs (omega arith) in
        let s : LossSession = leaves f cleared_session (take most rs) in
        let full : (r : Readings) → f s r ≡ record { answer = Err Full; session = s } = λ r. m.later (take most rs) r (omega arith) in
        record {
          said = ap (answers f cleared_session) (sym (take-append-drop most rs))
              ∙ answers-append f (take most rs) (drop most rs) cleared_session
              ∙ ap (λ (xs : List (Result (Option Losses) LossRefusal)). answers f cleared_session (take most rs) ++ xs)
              (full-answers f s full (drop most rs) ∙ ap (λ (k : ℕ). replicate k (Err Full)) (length-drop most rs));
          left = ap (leaves f cleared_session) (sym (take-append-drop most rs))
              ∙ leaves-append f (take most rs) (drop most rs) cleared_session ∙ full-left f s full (drop most rs);
          few = omega arith;
        }
