-- One turn of the loop of src/lib.rt. Assumes nothing.
use Prim.Native.Nat.{ℕ, ◌+◌, ◌<◌}
use mathlib.Core.Path.{◌≡◌, sym, ap, ◌∙◌}
use mathlib.Core.List.{List}
use native.Mathlib.Numerals.{add-one}
use native.Mathlib.Omega.{arith}
use lib.ListN.{length, get_or, set, take}
use lib.Seq.{length-take-le, take-suc}
use Rattle.base_laws.specs.Lists.{laid}
use Rattle.base_laws.proofs.Overlaid.{laid_more}

-- a copy: i octets are laid, and one more
pub copy_turn : (at i : ℕ) (from s : List ℕ) → i < length from → at + i < length s
    → set (laid at (take i from) s) (at + i) (get_or from i 0) ≡ laid at (take (i + 1) from) s
copy_turn at i from s h k =
    let e : length (take i from) ≡ i = length-take-le i from (omega arith) in
    ap (λ (m : ℕ). set (laid at (take i from) s) m (get_or from i 0)) (sym (ap (λ (m : ℕ). at + m) e))
    ∙ laid_more at (take i from) s (get_or from i 0) (omega arith)
    ∙ ap (λ (l : List ℕ). laid at l s) (sym (take-suc from i 0 h) ∙ ap (λ (m : ℕ). take m from) (sym (add-one i)))
