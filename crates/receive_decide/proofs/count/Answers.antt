-- Each side has its count. Assumes nothing.
use mathlib.Core.Path.{sym, ap}
use Rattle.receive_decide.specs.Decide.{count_of}
use Rattle.receive_decide.proofs.count.Goals as goal

pub returns-in-Active : goal.returns-in-Active
unfolding count_of
returns-in-Active c = sym (ap count_of c.in-Active.is)

pub returns-in-Passive : goal.returns-in-Passive
unfolding count_of
returns-in-Passive c = sym (ap count_of c.in-Passive.is)
