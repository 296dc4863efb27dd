-- `stored_settings_body_write::write_ids` meets its contract. The invariant: the first i IDs are laid.
use Prim.Native.Nat.{ℕ, ◌+◌, ◌*◌}
use mathlib.Core.Path.{ap, ◌∙◌}
use mathlib.Core.List.{List}
use native.Mathlib.Omega.{arith}
use lib.ListN.{get_or}
use lib.Seq.{take_all}
use Rattle.base_laws.specs.Lists.{laid}
use Rattle.base_numbers.specs.Numbers.{little_endian, in_octets}
use Rattle.stored_settings_body.specs.Body.{ids_octets}
use Rattle.stored_settings_body.proofs.Ids.{write_start, write_turn}
use Rattle.stored_settings_body_write.proofs.write_ids.Goals as goal

pub loop-i-init : goal.loop-i-init
loop-i-init c = write_start c.args.at c.args.ids.now c.args.into.now

pub loop-i-preserved : goal.loop-i-preserved
loop-i-preserved c =
    let l = c.loop-i in
    let a = c.args in
    let id = get_or a.ids.now l.i 0 in
    c.write_little.ensures ∙ ap (laid (a.at + 2 * l.i) (in_octets little_endian 2 id)) l.invariant
    ∙ write_turn a.at l.i a.ids.now a.into.now (omega arith) c.requires

pub returns : goal.returns
returns c =
    let l = c.loop-i in
    let a = c.args in
    l.invariant ∙ ap (λ (m : List ℕ). laid a.at (ids_octets m) a.into.now) (take_all l.i a.ids.now (omega arith))
