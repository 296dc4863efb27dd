-- `replay_state_write::write_words` meets its contract. The invariant: so many words are laid, and `place` is where the next one goes.
use Prim.Native.Nat.{◌+◌, ◌*◌}
use mathlib.Core.Path.{◌≡◌}
use lib.ListN.{length, take}
use Rattle.base_laws.specs.Lists.{laid}
use Rattle.replay_state.specs.Words.{words_octets}
use Rattle.replay_state_write.proofs.write_words.Given as goal

abbrev pub invariant-loop-word : goal.invariant-loop-word
invariant-loop-word l = (l.place ≡ l.at + l.n * l.word-index) × (length l.into ≡ length l.initial.into)
    × (l.into ≡ laid l.at (words_octets l.n (take l.word-index l.words)) l.initial.into)
