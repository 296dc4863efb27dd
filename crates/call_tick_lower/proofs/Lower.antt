-- Timers lowered in place: one more of a run, a run's first ones, and then all of a state. Assumes nothing.
use Prim.Native.Nat.{ℕ, zero, suc, ◌+◌, ◌-◌}
use mathlib.Core.Path.{◌≡◌, refl, ap, ap₂, ◌∙◌}
use mathlib.Core.List.{List, [], ◌∷◌, ◌++◌, map}
use lib.IntN.{ℤ}
use lib.ListN.{length, get_or, set, take, drop, length-set}
use Rattle.base_laws.specs.Lists.{on_first}
use Rattle.base_laws.proofs.OnFirst.{on_first-at, on_first-next, on_first-length}
use Rattle.state_view.specs.State.{view_of, run_words}
use Rattle.state_view.specs.Changed.{next, put, lowered}
use Rattle.state_places.proofs.Stores.{stores}

pub lower-next : (i : ℕ) (l : List ℕ) (v : ℕ) {m : List ℕ} → m ≡ on_first (λ t. t - 1) i l → v ≡ get_or m i 0 - 1
    → set m i v ≡ on_first (λ t. t - 1) (i + 1) l
lower-next i l v e h =
    let at = ap (λ (n : List ℕ). get_or n i 0) e ∙ on_first-at (λ t. t - 1) i l 0 in
    ap₂ (λ (n : List ℕ) (x : ℕ). set n i x) e (h ∙ ap (λ (t : ℕ). t - 1) at) ∙ on_first-next (λ t. t - 1) i l 0

-- the first n lowered as a part of their own
pub lower-first : (n : ℕ) (l : List ℕ) → map (λ t. t - 1) (take n l) ++ drop n l ≡ on_first (λ t. t - 1) n l
unfolding on_first
lower-first zero l = refl
lower-first (suc n) [] = refl
lower-first (suc n) (x ∷ l) = ap (λ (m : List ℕ). (x - 1) ∷ m) (lower-first n l)

-- both runs lowered and the ticks to the next CCM stored: the state after, and its words are all there
pub passed : (words names ids timers rdi run : List ℕ) (totals : List ℤ) (left : ℕ) {timers' run' : List ℕ} → length run ≡ run_words
    → timers' ≡ map (λ t. t - 1) timers → run' ≡ on_first (λ t. t - 1) 6 run
    → (view_of words names ids timers' rdi (set run' 6 left) totals ≡ put next left (lowered (view_of words names ids timers rdi run totals)))
    × (length (set run' 6 left) ≡ run_words)
passed words names ids timers rdi run totals left {timers'} {run'} h e f =
    let law = stores words names ids in
    let long : length run' ≡ run_words = ap length f ∙ on_first-length (λ t. t - 1) 6 run ∙ h in
    let low : view_of words names ids timers' rdi run' totals ≡ lowered (view_of words names ids timers rdi run totals) =
    ap₂ (λ (t r : List ℕ). view_of words names ids t rdi r totals) e f ∙ law.lower timers rdi run totals h in (
      law.word timers' rdi run' totals next left long ∙ ap (put next left) low,
      length-set run' 6 left ∙ long,
    )
