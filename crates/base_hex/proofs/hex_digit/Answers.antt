-- `base_hex::hex_digit` meets its contract, by its test.
use mathlib.Core.Path.{sym}
use native.Mathlib.Omega.{arith}
use Rattle.base_hex.proofs.Hex.{digit-below, digit-above}
use Rattle.base_hex.proofs.hex_digit.Goals as goal

pub returns-then-value-lt10 : goal.returns-then-value-lt10
returns-then-value-lt10 c = sym (digit-below c.args.value (omega arith))

pub returns-else-value-lt10 : goal.returns-else-value-lt10
returns-else-value-lt10 c = sym (digit-above c.args.value (omega arith))
