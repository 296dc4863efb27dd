-- The order is kept by every box that follows the paper, and by ours. Assumes nothing.
use Rattle.paper_said.specs.Calls.{Box}
use Rattle.paper_said.specs.Ours.{ours, Follows}
use Rattle.paper_said.proofs.Follows.{ours-follows}
use Rattle.paper_said.proofs.Told.{told-alike}
use Rattle.paper_promised.proofs.Promised.{promises}
use Rattle.loss_lent.proofs.Said.{lent-follows}
use Rattle.loss_lent.proofs.Demand3.{lent-meets}
use Rattle.paper_loss.proofs.Meets.{meets}
use Rattle.paper_time.proofs.Timely.{timely}
use Rattle.paper_beside.proofs.Reader.{reader-follows}
use Rattle.paper_order.specs.Order.{Order, Met}
use Rattle.paper_order.proofs.Demand1.{demand_1, beside}
use Rattle.paper_beside.proofs.Records.{records_follow}
use Rattle.paper_order.proofs.Demand2.{demand_2}

every : (B : Box) → Follows B → Order B
every B f = record { demand_1 = demand_1 B f; demand_2 = demand_2 B f; demand_3 = meets.meets B f; in_time = timely.every B f }

pub met : Met
met = record {
  every = every;
  our_box = every ours ours-follows.box;
  paper = promises;
  told = told-alike;
  beside = beside;
  records = records_follow;
  reader = reader-follows;
  lent_lines = lent-follows;
  lent = lent-meets;
}
