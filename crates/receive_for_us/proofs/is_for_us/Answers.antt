-- Both addresses, by the row's columns. Assumes nothing.
use Rattle.receive_for_us.specs.Ours.{for_us}
use Rattle.receive_for_us.proofs.is_for_us.Goals as goal

pub returns : goal.returns
unfolding for_us
returns c = rw (c.good_destination-to.ensures, c.good_source.ensures)
