-- `base_number_write::put_pair` meets its contract: two octets stored side by side.
use Prim.Native.Nat.{◌/◌, ◌%◌}
use mathlib.Core.Path.{refl}
use mathlib.Core.List.{[], ◌∷◌}
use native.Mathlib.Omega.{arith}
use lib.ListN.{length-set}
use Rattle.base_laws.proofs.Overlaid.{laid_one}
use Rattle.base_laws.proofs.Pieces.{first, stored}
use Rattle.base_number_text.specs.Decimal.{digit}
use Rattle.base_number_write.proofs.put_pair.Goals as goal

pub bounds-into-at-2 : goal.bounds-into-at-2
bounds-into-at-2 c = rw length-set (omega arith)

pub returns : goal.returns
returns c =
    let a = c.args in
    let tens = digit (a.pair / 10) in
    (stored (digit (a.pair % 10)) (first a.at 1 (tens ∷ []) a.into.now (laid_one a.at a.into.now tens (omega arith)) refl)
    (omega arith)).is
