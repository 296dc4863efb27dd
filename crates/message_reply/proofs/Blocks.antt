-- A request copied in blocks: the last block may lie over the one before it. Assumes nothing.
use Prim.Native.Nat.{ℕ, ◌+◌, ◌-◌, ◌≤◌}
use mathlib.Core.Path.{◌≡◌, sym, ap, ◌∙◌}
use mathlib.Core.List.{List, ◌++◌, append_assoc}
use native.Mathlib.Omega.{arith}
use lib.ListN.{length, take, drop, length-append}
use lib.Seq.{length-take-le, take_at, take-add, take_all, drop-drop, drop-append-add}
use Rattle.base_laws.specs.Lists.{part, laid}
use Rattle.base_laws.proofs.Parts.{length_part}
use Rattle.base_laws.proofs.Overlaid.{laid_next, length-laid}
use Rattle.base_laws.proofs.Apart.{laid-whole}

-- a block by way of an array as long as it
pub block_copied : (at n : ℕ) (from zeros s : List ℕ) {block after : List ℕ} → at + n ≤ length from → length zeros ≡ n
    → block ≡ laid 0 (take (at + n - at) (drop at from)) zeros → after ≡ laid at block s
    → after ≡ laid at (part at n from) s
unfolding part
block_copied at n from zeros s h k e f =
    let size : at + n - at ≡ n = omega arith in
    f
    ∙ ap (λ (xs : List ℕ). laid at xs s)
    (e ∙ ap (λ (m : ℕ). laid 0 (take m (drop at from)) zeros) size
    ∙ laid-whole zeros (part at n from) n k (length_part at n from h))

-- what lies under as much or more is gone
laid-over : {A : Type 0} (at : ℕ) (xs ys l : List A) → length xs ≤ length ys → at + length ys ≤ length l
    → laid at ys (laid at xs l) ≡ laid at ys l
unfolding laid
laid-over {A} at xs ys l h k =
    let p = take at l ++ xs in
    let q = drop (at + length xs) l in
    let more = length ys - length xs in
    let front : length (take at l) ≡ at = length-take-le at l (omega arith) in
    let long : length p ≡ at + length xs = length-append (take at l) xs ∙ ap (λ (m : ℕ). m + length xs) front in
    let t : take at (p ++ q) ≡ take at l = ap (take at) (append_assoc (take at l) xs q) ∙ take_at (take at l) (xs ++ q) at front in
    let e : at + length ys ≡ length p + more = omega arith in
    let f : at + length xs + more ≡ at + length ys = omega arith in
    let d : drop (at + length ys) (p ++ q) ≡ drop (at + length ys) l = ap (λ (m : ℕ). drop m (p ++ q)) e
    ∙ drop-append-add p q more ∙ drop-drop more (at + length xs) l ∙ ap (λ (m : ℕ). drop m l) f in
    ap (λ (m : List A). m ++ ys ++ drop (at + length ys) (p ++ q)) t ∙ ap (λ (m : List A). take at l ++ ys ++ m) d

-- i octets are laid at the front, and n more
pub block_next : (i n : ℕ) (from s : List ℕ) → i + n ≤ length from → length from ≤ length s
    → laid i (part i n from) (laid 0 (take i from) s) ≡ laid 0 (take (i + n) from) s
unfolding part
block_next i n from s h k =
    let front : i ≡ 0 + i = omega arith in
    ap (λ (m : ℕ). laid m (part i n from) (laid 0 (take i from) s)) front
    ∙ laid_next 0 i (take i from) (part i n from) s (length-take-le i from (omega arith)) (omega (arith, length_part i n from h))
    ∙ ap (λ (xs : List ℕ). laid 0 xs s) (sym (take-add i n from))

-- i octets are laid, and the last n, which begin among them or right behind them
pub block_last : (i j n : ℕ) (from s : List ℕ) → j ≤ i → i ≤ length from → j + n ≡ length from → length from ≤ length s
    → laid j (part j n from) (laid 0 (take i from) s) ≡ laid 0 from s
block_last i j n from s h k e fits =
    let m = i - j in
    let under = laid 0 (take j from) s in
    let cut : i ≡ j + m = omega arith in
    let long : length under ≡ length s = length-laid 0 (take j from) s (omega (arith, length-take-le j from (omega arith))) in
    let back : laid 0 (take i from) s ≡ laid j (part j m from) under = ap (λ (x : ℕ). laid 0 (take x from) s) cut
    ∙ sym (block_next j m from s (omega arith) (omega arith)) in
    ap (laid j (part j n from)) back
    ∙ laid-over j (part j m from) (part j n from) under
    (omega (arith, length_part j m from (omega arith), length_part j n from (omega arith)))
    (omega (arith, length_part j n from (omega arith)))
    ∙ block_next j n from s (omega arith) (omega arith)
    ∙ ap (λ (xs : List ℕ). laid 0 xs s) (take_all (j + n) from (omega arith))
