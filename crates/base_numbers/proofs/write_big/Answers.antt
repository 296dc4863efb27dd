-- `base_numbers::write_big` meets its contract. The invariant: the octets from i on are laid, and `rest` is the value without them.
use native.Mathlib.Omega.{arith}
use native.Mathlib.Nat.{div-one}
use mathlib.Core.Path.{◌≡◌, ap, sym, ◌∙◌}
use mathlib.Core.List.{List}
use Prim.Native.Nat.{ℕ, ◌+◌, ◌/◌, ◌-◌}
use lib.Bits.{bit_and}
use lib.ListN.{set}
use Rattle.base_laws.proofs.Overlaid.{laid_none}
use Rattle.base_numbers.specs.Numbers.{big_endian}
use Rattle.base_numbers.proofs.Turns.{no-octets, down_write, down-rest}
use Rattle.base_numbers.proofs.write_big.Goals as goal

pub loop-i-init : goal.loop-i-init
loop-i-init c = let a = c.args in
    let e : a.at + a.n - (a.at + a.n) ≡ 0 = omega arith in
    record {
      low = omega arith;
      high = omega arith;
      laid = rw (e, sym (no-octets big_endian a.value), laid_none);
      rest = rw e (sym (div-one a.value));
    }

pub loop-i-preserved : goal.loop-i-preserved
loop-i-preserved c = let l = c.loop-i in
    let a = c.args in
    let v = l.invariant in
    record {
      low = omega arith;
      high = omega arith;
      laid = ap (λ (s : List ℕ). set s (l.i - 1) (bit_and l.rest 255)) v.laid
          ∙ down_write a.at a.n l.i a.value a.into.now (omega arith) (omega arith) (omega arith) l.rest v.rest;
      rest = ap (λ (m : ℕ). m / 256) v.rest ∙ down-rest a.at a.n l.i a.value a.into.now (omega arith) (omega arith) (omega arith);
    }

pub returns : goal.returns
returns c = let l = c.loop-i in
    let a = c.args in
    let front : l.i ≡ a.at = omega arith in
    let all : a.at + a.n - a.at ≡ a.n = omega arith in
    rw (front, all) at l.invariant.laid
