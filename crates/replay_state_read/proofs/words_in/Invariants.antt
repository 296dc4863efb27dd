-- `replay_state_read::words_in` meets its contract. The invariant: so many words are read, and `place` is where the next one stands.
use Prim.Native.Nat.{◌+◌, ◌*◌}
use mathlib.Core.Path.{◌≡◌}
use lib.ListN.{drop, replicate}
use Rattle.base_laws.specs.Lists.{laid}
use Rattle.state_settings.specs.Settings.{slots}
use Rattle.replay_state.specs.Words.{words_in}
use Rattle.replay_state_read.proofs.words_in.Given as goal

abbrev pub invariant-loop-word : goal.invariant-loop-word
invariant-loop-word l = (l.place ≡ l.at + l.n * l.word-index)
    × (l.word-items ≡ laid 0 (words_in l.n l.word-index (drop l.at l.from)) (replicate slots 0))
