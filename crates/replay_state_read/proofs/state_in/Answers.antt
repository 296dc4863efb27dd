-- `replay_state_read::state_in` meets its contract: the settings, the words of the slots, the session, and the running words.
use mathlib.Core.Path.{◌≡◌, refl, ◌∙◌}
use lib.ListN.{length, replicate}
use mir.Syntax.{w64}
use mir.Val.{to_z, of_z}
use native.Mathlib.Omega.{arith}
use Rattle.base_laws.specs.Lists.{part}
use Rattle.base_laws.proofs.Parts.{length_part}
use Rattle.base_laws.proofs.Apart.{laid-whole}
use borrow.Author.Rules.{rules}
use Rattle.replay_state_read.proofs.state_in.Goals as goal

pub returns : goal.returns
unfolding part
returns c =
    let from = c.args.from.now in
    let long : length from ≡ 194 = search rules in
    let f = c.copy_octets in
    let b = c.copy_octets-2 in
    let s = c.session_in-session in
    let front : f.new.into ≡ part 0 81 from = f.ensures
    ∙ laid-whole (replicate 81 0) (part 0 81 from) 81 refl (length_part 0 81 from (rw long (omega arith))) in
    let back : b.new.into ≡ part 157 37 from = b.ensures
    ∙ laid-whole (replicate 37 0) (part 157 37 from) 37 refl (length_part 157 37 from (rw long (omega arith))) in
    let near : to_z w64 (of_z w64 s.result.near) ≡ s.result.near = search rules in
    let far : to_z w64 (of_z w64 s.result.far) ≡ s.result.far = search rules in
    rw (near, far)
    (rw (
      c.settings_of-settings.ensures,
      front,
      c.words_in-timers.ensures,
      c.words_in-rdi.ensures,
      c.run_in-run.ensures,
      s.ensures,
      back,
    ))
