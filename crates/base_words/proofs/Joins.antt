-- Words joined bit by bit stand for tests joined: their union is 0 exactly where each is. Assumes nothing.
use Prim.Native.Nat.{ℕ, zero, suc}
use mathlib.Core.Path.{◌≡◌, refl, sym, ap, ◌∙◌}
use mathlib.Core.Bool.{Bool, false, ◌&&◌}
use native.Mathlib.Omega.{arith}
use lib.Bits.{bit_or, or_zero_l, or_add_and, and_le_r}
use lib.Dec.{eqb}
use borrow.Author.Tests.{ne_eqb, lt-leb}
use Rattle.base_words.specs.Words.{within}

-- two words joined are 0 where both are
both-none : (a b : ℕ) → eqb (bit_or a b) 0 ≡ (eqb a 0 && eqb b 0)
both-none zero b = rw (or_zero_l b)
both-none (suc a) b =
    let some : eqb (suc a) 0 ≡ false = ne_eqb (suc a) 0 (λ e. omega (arith, e)) in
    rw some (ne_eqb (bit_or (suc a) b) 0 (λ e. omega (arith, e, or_add_and (suc a) b, and_le_r (suc a) b)))

none_within : (x : ℕ) → eqb x 0 ≡ within 0 x
none_within zero = refl
none_within (suc x) = ne_eqb (suc x) 0 (λ e. omega (arith, e)) ∙ sym (lt-leb (suc x) 0 (omega arith))

-- one word more
pub one_more : (rest x : ℕ) → eqb (bit_or rest x) 0 ≡ (eqb rest 0 && within 0 x)
one_more rest x = both-none rest x ∙ ap (λ (t : Bool). eqb rest 0 && t) (none_within x)
