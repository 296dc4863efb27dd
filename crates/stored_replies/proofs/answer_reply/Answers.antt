-- `stored_replies::answer_reply` meets its contract: four counts, one behind the other, are the reading that the session is given.
use mathlib.Core.Path.{◌∙◌}
use Rattle.stored_replies.proofs.answer_reply.Goals as goal

pub returns : goal.returns
returns c =
    c.answer.ensures
    ∙ rw (c.read_little-txf.ensures.is, c.read_little-rxf.ensures.is, c.read_little-txb.ensures.is, c.read_little-ours.ensures.is)
