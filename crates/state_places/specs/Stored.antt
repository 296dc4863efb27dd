-- What storing a word, a session or all timers leaves of the state in the arrays. Definitions and the statement only.
use Rattle.std.specs.Prelude.{ℕ, ◌-◌, ◌≡◌, List, map, ℤ, length}
use Rattle.std.proofs.Math.ListN as ListN
use Rattle.base_laws.specs.Lists.{on_first}
use Rattle.state_view.specs.State.{view_of, run_words, loss_totals}
use Rattle.state_view.specs.Changed.{Word, place_of, put, lowered}

-- the two arrays that the view takes apart are as long as they are lent
pub record Whole (run : List ℕ) (totals : List ℤ) : Type 0 where
  pub words : length run ≡ run_words
  pub both : length totals ≡ loss_totals

-- storing a word at its place changes that word and no other; six words and the peers' timers lowered are every timer lowered; a state is
-- laid out in one way only
pub record Stores (set names ids : List ℕ) : Type 0 where
  -- storing a word at its place changes that word, and no other
  pub word : (timers rdi run : List ℕ) (totals : List ℤ) (w : Word) (v : ℕ) → length run ≡ run_words
      → view_of set names ids timers rdi (ListN.set run (place_of w) v) totals ≡ put w v (view_of set names ids timers rdi run totals)
  -- with the peers' timers lowered and the first six running words, every timer is
  pub lower : (timers rdi run : List ℕ) (totals : List ℤ) → length run ≡ run_words
      → view_of set names ids (map (λ t. t - 1) timers) rdi (on_first (λ t. t - 1) 6 run) totals ≡ lowered (view_of set names ids timers rdi run totals)
  -- a state is laid out in one way only: two runs of arrays that show the same state are the same
  pub one : (timers rdi run : List ℕ) (totals : List ℤ) (timers' rdi' run' : List ℕ) (totals' : List ℤ) → Whole run totals → Whole run' totals'
      → view_of set names ids timers rdi run totals ≡ view_of set names ids timers' rdi' run' totals'
      → (timers ≡ timers') × (rdi ≡ rdi') × (run ≡ run') × (totals ≡ totals')
