-- The order, whole: what it demands of a box, and what is said of the calls that take no box. Definitions and the statement only.
use Rattle.paper_said.specs.Calls.{Box}
use Rattle.paper_said.specs.Ours.{ours, Follows}
use Rattle.paper_said.specs.Told.{ToldAlike}
use Rattle.paper_promised.specs.Promised.{Promises}
use Rattle.loss_lent.specs.Said.{LentFollows}
use Rattle.loss_lent.specs.Demand3.{LentMeets}
use Rattle.paper_loss.specs.Demand3.{Demand3}
use Rattle.paper_time.specs.Time.{Time}
use Rattle.paper_beside.specs.Reader.{ReaderFollows}
use Rattle.paper_order.specs.Demand1.{Demand1, Beside}
use Rattle.paper_beside.specs.Records.{RecordsFollow}
use Rattle.paper_order.specs.Demand2.{Demand2}

pub record Order (B : Box) : Type 0 where
  pub demand_1 : Demand1 B
  pub demand_2 : Demand2 B
  pub demand_3 : Demand3 B
  pub in_time : Time B

-- every box that follows the paper keeps demands 1, 2 and 3 and is in time, ours too; the paper says one thing of every call, and its
-- answers are in its numbers; the calls beside it keep demands 1 and 2, and the lent session demand 3
pub record Met : Type 1 where
  pub every : (B : Box) → Follows B → Order B
  pub our_box : Order ours
  -- the paper says something of every call and leaves no choice; the numbers that a caller is given are those of the paper's answers
  pub paper : Promises
  pub told : ToldAlike
  -- the calls that are given no state of a box, those on stored records, the reader and the lent session, keep demands 1 and 2 beside it
  pub beside : Beside
  pub records : RecordsFollow
  pub reader : ReaderFollows
  -- the lent session by the paper's lines on it, and it keeps demand 3
  pub lent_lines : LentFollows
  pub lent : LentMeets
