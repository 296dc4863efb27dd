-- `base_numbers::read_little` meets its contract. The invariant: the sum is the number in the octets done, which stand behind those left.
use native.Mathlib.Omega.{arith}
use mathlib.Core.Path.{◌≡◌, ap, sym, ◌∙◌}
use mathlib.Core.List.{List, [], ◌∷◌, ◌++◌}
use native.Mathlib.Numerals.{add-one}
use Rattle.std.proofs.lemmas.Grind.{common_steps}
use Prim.Native.Nat.{ℕ, ◌+◌, ◌*◌, ◌≤◌}
use lib.ListN.{length, length-append}
use Rattle.base_laws.specs.Lists.{part}
use Rattle.base_laws.proofs.Parts.{length_part}
use Rattle.base_numbers.specs.Numbers.{number, little_endian}
use Rattle.base_numbers.proofs.Laws.{little_more}
use Rattle.base_numbers.proofs.Turns.{little_none, before_done, none-left, more-below, most-below, items_part}
use Rattle.base_numbers.proofs.read_little.Goals as goal

pub loop-lower-init : goal.loop-lower-init
loop-lower-init c = let a = c.args in
    record {
      done = [];
      all = sym (items_part a.at a.n a.from.now) ∙ grind (arith, common_steps);
      sum = little_none;
      small = omega arith;
    }

-- one more octet is left, so fewer than four are done
few : (at n : ℕ) (s left rest done : List ℕ) (x : ℕ) → n ≤ 4 → at + n ≤ length s → part at n s ≡ left ++ done → left ≡ rest ++ (x ∷ [])
    → length done + 1 ≤ 4
few at n s left rest done x h fits e t = omega (
  arith,
  length_part at n s fits,
  ap length e,
  length-append left done,
  ap length t,
  length-append rest (x ∷ []),
)

pub overflow_mul-sum : goal.overflow_mul-sum
overflow_mul-sum c = let l = c.loop-lower in
    let a = c.args in
    let v = l.invariant in
    let h = few a.at a.n a.from.now _ _ v.done _ (omega arith) (omega arith) v.all c.in-Some.ensures.steps in
    omega (arith, more-below (length v.done) l.sum 0 v.small (omega arith), most-below (length v.done + 1) h)

pub overflow_add-sum : goal.overflow_add-sum
overflow_add-sum c = let l = c.loop-lower in
    let a = c.args in
    let v = l.invariant in
    let h = few a.at a.n a.from.now _ _ v.done _ (omega arith) (omega arith) v.all c.in-Some.ensures.steps in
    omega (arith, more-below (length v.done) l.sum c.in-Some.lower.now v.small (omega arith), most-below (length v.done + 1) h)

pub loop-lower-preserved : goal.loop-lower-preserved
loop-lower-preserved c = let l = c.loop-lower in
    let v = l.invariant in
    let x = c.in-Some.lower.now in
    record {
      done = x ∷ v.done;
      all = before_done _ _ _ v.done x v.all c.in-Some.ensures.steps;
      sum = ap (λ (k : ℕ). k * 256 + x) v.sum ∙ sym (little_more x v.done);
      small = rw add-one at (more-below (length v.done) l.sum x v.small (omega arith));
    }

pub returns : goal.returns
returns c = let l = c.loop-lower in
    let a = c.args in
    let v = l.invariant in
    let e = none-left (part a.at a.n a.from.now) _ v.done v.all c.in-None.ensures.steps.0 in
    let n : length v.done ≡ a.n = omega (arith, ap length e, length_part a.at a.n a.from.now (omega arith)) in
    record { is = v.sum ∙ ap (number little_endian) (sym e); small = rw n at v.small }
