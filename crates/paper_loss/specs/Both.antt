-- Demand 3 in the order's own form, all four readings at once: it holds of every box that meets the demand
-- for near and for far, each by itself. Definitions and the statement only.
use Rattle.std.specs.Prelude.{ℕ, ◌-◌, ◌≡◌, List, [], ◌∷◌, ◌++◌, map, pos, length, replicate}
use Rattle.loss_session.specs.Session.{LossEnd, near, far, total_of}
use Rattle.loss_account.specs.Account.{lost, total}
use Rattle.loss_account.specs.Demand3.{Counts, truth_of, shown, Steady}
use Rattle.state_view.specs.State.{State}
use Rattle.paper_said.specs.Calls.{Call, Answer, refused, loss, Box}
use Rattle.paper_loss.specs.Runs.{run, Event}
use Rattle.paper_loss.specs.Replies.{most, replies_in, accepted, SinceClear}
use Rattle.paper_loss.specs.Demand3.{said, Demand3}

-- near and far loss of each interval, from one accepted reply to the next; before them 0 and 0 at the first
unfoldable pub measurements : Counts → List Counts → List Answer
measurements t [] = []
measurements t (u ∷ us) = loss (lost (truth_of near t) (truth_of near u)) (lost (truth_of far t) (truth_of far u)) ∷ measurements u us

abbrev pub tells : List Counts → List Answer
tells [] = []
tells (t ∷ ts) = loss (pos 0) (pos 0) ∷ measurements t ts

-- the true counts ts of the accepted replies: results, both totals and the intervals
pub record BothAgree (B : Box) (n : ℕ) (s : State) (cs : List Call) (es : List Event) (ts : List Counts) : Type 0 where
  pub results : said B s cs es ≡ tells ts ++ replicate (length (replies_in n es) - most) (refused 5)
  pub totals : (d : LossEnd) → total_of d (run B s cs).session ≡ total (map (truth_of d) ts)
  pub intervals : (run B s cs).session.intervals ≡ length ts - 1

-- the same with all four true counts at once, as the order says it: each reading is a true count modulo 2^32, and no true count falls, or
-- grows by 2^32 or more
abbrev pub AtOnce : Type 0
AtOnce = (B : Box) → Demand3 B → (n : ℕ) (s : State) (cs : List Call) (es : List Event) (ts : List Counts) → SinceClear n s cs es
    → accepted n es ≡ map shown ts → Steady ts → BothAgree B n s cs es ts
