-- `base_hex::write_pair` meets its contract: two digits, one behind the other.
use native.Mathlib.Omega.{arith}
use lib.ListN.{length-set}
use Rattle.base_hex.proofs.Hex.{pair_laid}
use Rattle.base_hex.proofs.write_pair.Goals as goal

pub bounds-into-at-2 : goal.bounds-into-at-2
bounds-into-at-2 c = let a = c.args in
    omega (arith, length-set a.into.now a.at c.hex_digit.result)

pub returns : goal.returns
returns c = let a = c.args in
    rw (c.hex_digit-2.ensures, c.hex_digit.ensures) (pair_laid a.at a.octet a.into.now (omega arith))
