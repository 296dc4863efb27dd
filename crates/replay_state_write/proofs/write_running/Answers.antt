-- `replay_state_write::write_running` meets its contract: four pieces, each laid behind the one before it.
use mathlib.Core.Path.{refl}
use Rattle.replay_state.proofs.State.{running_laid}
use Rattle.replay_state_write.proofs.write_running.Goals as goal

pub returns : goal.returns
returns c =
    let s = c in
    running_laid _ s.args.timers.now s.args.rdi.now _ s.args.into.now refl s.requires.1 s.requires.2 refl s.requires.0
    c.write_words.ensures
    c.write_words-2.ensures
    c.write_words-3.ensures
    c.write_words-4.ensures
