-- `base_numbers::write_little` meets its contract. The invariant: all octets before this one are written, and `rest` is what is left.
use native.Mathlib.Omega.{arith}
use native.Mathlib.Nat.{div-one}
use mathlib.Core.Path.{◌≡◌, ap, sym, ◌∙◌}
use Prim.Native.Nat.{ℕ, ◌/◌}
use lib.Seq.{take_all}
use Rattle.base_octets.proofs.Copied.{laid_over}
use Rattle.base_numbers.specs.Numbers.{in_octets, little_endian}
use Rattle.base_numbers.proofs.Laws.{divided, length-octets}
use Rattle.base_numbers.proofs.Turns.{no-octets, up_turn, items-long}
use Rattle.base_numbers.proofs.write_little.Goals as goal

pub loop-octet-init : goal.loop-octet-init
loop-octet-init c = record { written = no-octets little_endian c.args.value; rest = sym (div-one c.args.value) }

pub loop-octet-preserved : goal.loop-octet-preserved
loop-octet-preserved c = let l = c.loop-octet in
    let v = l.invariant in
    record {
      written = up_turn l.octet-index c.args.value l.rest l.octet-items (omega arith) v.written v.rest;
      rest = ap (λ (k : ℕ). k / 256) v.rest ∙ divided l.octet-index c.args.value;
    }

pub returns : goal.returns
returns c = let l = c.loop-octet in
    let a = c.args in
    let e : l.octet-index ≡ a.n = omega (arith, items-long a.at a.n a.into.now (omega arith)) in
    laid_over a.at _ (in_octets little_endian a.n a.value) _ a.into.now (omega (arith, length-octets little_endian a.n a.value))
    (sym (take_all l.octet-index l.octet-items (omega arith)) ∙ l.invariant.written ∙ ap (λ (k : ℕ). in_octets little_endian k a.value) e)
