-- `call_conditions::shown` meets its contract: each flag from its own timer.
use Rattle.call_conditions.proofs.shown.Goals as goal

pub returns : goal.returns
returns c = rw (
  c.mark_lost.ensures,
  c.flag_of.ensures,
  c.flag_of-2.ensures,
  c.flag_of-3.ensures,
  c.flag_of-4.ensures,
  c.flag_of-5.ensures,
  c.flag_of-6.ensures,
)
