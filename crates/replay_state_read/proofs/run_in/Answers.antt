-- `replay_state_read::run_in` meets its contract: each word from its field, or from the session.
use Rattle.replay_state_read.proofs.run_in.Goals as goal

pub returns : goal.returns
returns c =
    rw (
      c.read_little.ensures.is,
      c.read_little-2.ensures.is,
      c.read_little-3.ensures.is,
      c.read_little-4.ensures.is,
      c.read_little-5.ensures.is,
      c.read_little-6.ensures.is,
      c.read_little-7.ensures.is,
      c.read_little-8.ensures.is,
      c.read_little-9.ensures.is,
    )
