-- `base_compare::same_octets` meets its contract. The invariant: what was found so far, and the pairs that are left, decide as all do.
use mathlib.Core.Path.{sym, ap, ◌∙◌}
use mathlib.Core.Bool.{and_assoc}
use lib.Dec.{eqb}
use lib.ListN.{length}
use native.Mathlib.Omega.{arith}
use Rattle.std.proofs.lemmas.Grind.{common_steps}
use Rattle.base_laws.specs.Lists.{every_pair}
use Rattle.base_laws.proofs.Compared.{pair_lengths}
use Rattle.base_compare.proofs.same_octets.Goals as goal

pub returns-then-a-b : goal.returns-then-a-b
returns-then-a-b c = sym (pair_lengths eqb c.args.a.now c.args.b.now c.if-a-b.true)

pub loop-x-preserved : goal.loop-x-preserved
unfolding every_pair
loop-x-preserved c =
    let s = c.in-Some.ensures.steps in
    let v = c.loop-x.invariant in
    record {
      long = omega (arith, ap length s.0, ap length s.1, v.long);
      rest = v.rest ∙ rw (s.0, s.1) (sym (and_assoc c.loop-x.good (eqb c.in-Some.x.now c.in-Some.y.now) _));
    }

pub returns : goal.returns
unfolding every_pair
returns c = grind (arith, common_steps)
