-- What follows from demand 3 over runs, together. Assumes nothing.
use Rattle.paper_loss.specs.Meets.{Follow}
use Rattle.paper_loss.proofs.Tight.{tight}
use Rattle.paper_loss.proofs.AnyClear.{from_any_clear}
use Rattle.paper_loss.proofs.Both.{at_once}

pub follow : Follow
follow = record { tight = tight; from_any_clear = from_any_clear; at_once = at_once }
