-- `base_signed::write_little_signed` meets its contract: the octets that are copied are those of the two's complement.
use mathlib.Core.Path.{ap, ◌∙◌}
use mathlib.Core.List.{List}
use Prim.Native.Nat.{ℕ}
use Rattle.base_laws.specs.Lists.{laid}
use Rattle.std.proofs.Common.{rules}
use Rattle.base_numbers.specs.Numbers.{in_octets, little_endian}
use Rattle.base_signed.proofs.Laws.{eight-octets}
use Rattle.base_signed.proofs.write_little_signed.Goals as goal

pub returns : goal.returns
returns c =
    let a = c.args in
    let octets = c.to_le_bytes-octets.ensures ∙ eight-octets c.cast_unsigned.result ∙ ap (in_octets little_endian 8) (search rules) in
    c.copy_octets.ensures ∙ ap (λ (xs : List ℕ). laid a.at xs a.into.now) octets
