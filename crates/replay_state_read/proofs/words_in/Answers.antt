-- `replay_state_read::words_in` meets its contract. The invariant: so many words are read, and `place` is where the next one stands.
use Prim.Native.Nat.{ℕ}
use mathlib.Core.Path.{ap, ◌∙◌}
use mathlib.Core.List.{List}
use native.Mathlib.Omega.{arith}
use native.Mathlib.Nat.{mul-zero}
use lib.ListN.{set, replicate}
use Rattle.state_settings.specs.Settings.{slots}
use Rattle.replay_session.specs.Session.{field_at}
use Rattle.replay_state.proofs.Words.{next_place, place-fits, read-start, read_turn, read_all}
use Rattle.replay_state_read.proofs.words_in.Goals as goal

pub loop-word-init : goal.loop-word-init
loop-word-init c = let a = c.args in (omega (arith, mul-zero a.n), read-start a.n a.at a.from.now (replicate slots 0))

pub read_little-requires : goal.read_little-requires
read_little-requires c = omega (arith, place-fits c.args.n c.loop-word.word-index slots (omega arith))

pub overflow_add-place : goal.overflow_add-place
overflow_add-place c = omega (arith, place-fits c.args.n c.loop-word.word-index slots (omega arith))

pub loop-word-preserved : goal.loop-word-preserved
loop-word-preserved c =
    let l = c.loop-word in
    let i = l.word-index in
    let a = c.args in
    let v = c.read_little.result in (
      omega (arith, l.invariant.0, next_place a.n i),
      ap (λ (m : List ℕ). set m i v) l.invariant.1
          ∙ read_turn a.n a.at i v a.from.now (replicate slots 0) (omega arith)
          (c.read_little.ensures.is ∙ ap (λ (k : ℕ). field_at k a.n a.from.now) l.invariant.0),
    )

pub returns : goal.returns
returns c =
    let l = c.loop-word in
    let a = c.args in
    read_all a.n a.at l.word-index a.from.now (replicate slots 0) l.invariant.1 (omega arith)
