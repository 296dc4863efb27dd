-- `base_hex::write_pairs` meets its contract. The invariant: the digits of the first i octets are laid.
use Prim.Native.Nat.{ℕ, ◌+◌, ◌*◌}
use mathlib.Core.Path.{refl, ap, ◌∙◌}
use mathlib.Core.List.{List}
use native.Mathlib.Omega.{arith}
use lib.ListN.{get_or}
use lib.Seq.{take_all}
use borrow.Author.Rules.{rules}
use Rattle.base_laws.specs.Lists.{laid}
use Rattle.base_hex.specs.Hex.{hex_pair, hex_pairs}
use Rattle.base_hex.proofs.Hex.{pairs_start, pairs_turn}
use Rattle.base_hex.proofs.write_pairs.Goals as goal

pub loop-i-init : goal.loop-i-init
loop-i-init c = (
  search rules,
  refl,
  pairs_start c.args.at
      c.args.octets.now c.args.into.now,
)

pub loop-i-preserved : goal.loop-i-preserved
loop-i-preserved c =
    let l = c.loop-i in
    let a = c.args in
    let x = get_or a.octets.now l.i 0 in (
      omega arith,
      search rules,
      c.write_pair.ensures
          ∙ ap (laid (a.at + 2 * l.i) (hex_pair x)) l.invariant.2
          ∙ pairs_turn a.at l.i a.octets.now a.into.now (omega arith) c.requires,
    )

pub returns : goal.returns
returns c =
    let l = c.loop-i in
    let a = c.args in
    l.invariant.2 ∙ ap (λ (m : List ℕ). laid a.at (hex_pairs m) a.into.now) (take_all l.i a.octets.now (omega arith))
