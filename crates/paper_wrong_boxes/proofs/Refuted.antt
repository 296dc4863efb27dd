-- The wrong boxes of specs/Wrong.antt do not meet demand 3: each by a setting and a run that are written out. Assumes nothing.
use Rattle.paper_wrong_boxes.specs.Wrong.{ShutOut}
use Rattle.paper_wrong_boxes.proofs.Replies.{invents_out, repeats_out, lingers_out}
use Rattle.paper_wrong_boxes.proofs.Counts.{halves_out}
use Rattle.paper_wrong_boxes.proofs.Signs.{signless_out}

pub shut_out : ShutOut
shut_out = record {
  repeats_out = repeats_out;
  invents_out = invents_out;
  halves_out = halves_out;
  signless_out = signless_out;
  lingers_out = lingers_out;
}
