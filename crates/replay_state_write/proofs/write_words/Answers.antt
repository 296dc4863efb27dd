-- `replay_state_write::write_words` meets its contract. The invariant: so many words are laid, and `place` is where the next one goes.
use Prim.Native.Nat.{ℕ, ◌+◌, ◌*◌}
use mathlib.Core.Path.{refl, ap, ◌∙◌}
use mathlib.Core.List.{List}
use native.Mathlib.Omega.{arith}
use native.Mathlib.Nat.{mul-zero}
use lib.ListN.{length, get_or}
use lib.Seq.{take_all}
use Rattle.base_laws.specs.Lists.{laid}
use Rattle.replay_session.specs.Session.{field}
use Rattle.replay_state.specs.Words.{words_octets}
use Rattle.replay_state.proofs.Words.{next_place, place-fits, write_start, write_turn}
use borrow.Author.Rules.{rules}
use Rattle.replay_state_write.proofs.write_words.Goals as goal

pub loop-word-init : goal.loop-word-init
loop-word-init c = let a = c.args in (omega (arith, mul-zero a.n), refl, write_start a.n a.at a.words.now a.into.now)

pub write_little-requires : goal.write_little-requires
write_little-requires c = omega (arith, place-fits c.args.n c.loop-word.word-index (length c.args.words.now) (omega arith))

pub overflow_add-place : goal.overflow_add-place
overflow_add-place c = omega (arith, place-fits c.args.n c.loop-word.word-index (length c.args.words.now) (omega arith))

pub loop-word-preserved : goal.loop-word-preserved
loop-word-preserved c =
    let l = c.loop-word in
    let i = l.word-index in
    let a = c.args in
    let word = get_or a.words.now i 0 in (
      omega (arith, l.invariant.0, next_place a.n i),
      search rules,
      c.write_little.ensures
          ∙ ap (λ (k : ℕ). laid k (field a.n word) l.into) l.invariant.0
          ∙ ap (laid (a.at + a.n * i) (field a.n word)) l.invariant.2
          ∙ write_turn a.n a.at i a.words.now a.into.now (omega arith) c.requires,
    )

pub returns : goal.returns
returns c =
    let l = c.loop-word in
    let a = c.args in
    l.invariant.2 ∙ ap (λ (m : List ℕ). laid a.at (words_octets a.n m) a.into.now) (take_all l.word-index a.words.now (omega arith))
