-- The first six octets, one by one. Assumes nothing.
use Prim.Native.Nat.{ℕ, ◌≤◌}
use mathlib.Core.Path.{◌≡◌, refl}
use mathlib.Core.List.{List, [], ◌∷◌}
use native.Mathlib.Omega.{arith}
use lib.ListN.{length, get_or}
use Rattle.base_laws.specs.Lists.{part}
use Rattle.state_settings.specs.Settings.{name_octets}
use borrow.Author.Rules.{rules}
use Rattle.receive_respond.proofs.own_address.Goals as goal

first-six : (l : List ℕ) → 6 ≤ length l → (get_or l 0 0 ∷ get_or l 1 0 ∷ get_or l 2 0 ∷ get_or l 3 0 ∷ get_or l 4 0 ∷ get_or l 5 0 ∷ []) ≡ part 0 6 l
unfolding part
first-six ([]) h = absurd (omega arith)
first-six (x0 ∷ []) h = absurd (omega arith)
first-six (x0 ∷ x1 ∷ []) h = absurd (omega arith)
first-six (x0 ∷ x1 ∷ x2 ∷ []) h = absurd (omega arith)
first-six (x0 ∷ x1 ∷ x2 ∷ x3 ∷ []) h = absurd (omega arith)
first-six (x0 ∷ x1 ∷ x2 ∷ x3 ∷ x4 ∷ []) h = absurd (omega arith)
first-six (x0 ∷ x1 ∷ x2 ∷ x3 ∷ x4 ∷ x5 ∷ l) h = refl

pub returns : goal.returns
returns c = let l = c.args.names.now in
    let h : length l ≡ name_octets = search rules in
    first-six l (omega arith)
