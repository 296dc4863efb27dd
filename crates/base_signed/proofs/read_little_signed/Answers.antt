-- `base_signed::read_little_signed` meets its contract: eight octets are two halves of four.
use lib.IntN.{ℤ}
use mir.Val.{Fits, to_z, of_z}
use mir.Facts.{of_z-to_z}
use mir.Syntax.{w64}
use native.Mathlib.Omega.{arith}
use mathlib.Core.Path.{◌≡◌, ap, ap₂, ◌∙◌}
use Prim.Native.Nat.{ℕ, ◌+◌, ◌*◌}
use Rattle.base_laws.specs.Lists.{part}
use Rattle.base_numbers.specs.Numbers.{number, little_endian}
use Rattle.base_signed.proofs.Laws.{eight-read}
use Rattle.base_signed.proofs.read_little_signed.Goals as goal

pub returns : goal.returns
returns c =
    let a = c.args in
    let low = c.read_little-low in
    let high = c.read_little-high in
    let bits = low.result + high.result * 4294967296 in
    let halves : bits ≡ number little_endian (part a.at 8 a.from.now) =
    ap₂ (λ (x y : ℕ). x + y * 4294967296) low.ensures.is high.ensures.is ∙ eight-read a.at a.from.now (omega arith) in
    let fits : Fits w64 bits = record { fits = omega arith } in
    ap (λ (z : ℤ). to_z w64 (of_z w64 z)) c.cast_signed.ensures ∙ ap (to_z w64) (of_z-to_z fits ∙ halves)
