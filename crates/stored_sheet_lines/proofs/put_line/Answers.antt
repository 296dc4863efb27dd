-- `stored_sheet_lines::put_line` meets its contract: three numbers, each in front of the one before it, and the line copied.
use Prim.Native.Nat.{ℕ, ◌-◌, ◌≤◌}
use mathlib.Core.Path.{◌≡◌, refl}
use mathlib.Core.List.{List, [], ◌∷◌, ◌++◌}
use lib.IntN.{ℤ, pos}
use lib.ListN.{replicate, set}
use mir.Syntax.{w64}
use mir.Val.{SFits}
use mir.Facts.{to_z_pos}
use native.Mathlib.Omega.{arith}
use Rattle.base_laws.proofs.Stored.{fits-size}
use Rattle.base_number_text.specs.Decimal.{decimal}
use Rattle.base_number_text.specs.Before.{put_before, beginning}
use Rattle.stored_line.specs.declared.LossLine.{LossLine}
use Rattle.stored_sheet_lines.proofs.LinePieces.{Made, made_none, made_room, made_next, line_copied}
use borrow.Author.Rules.{rules}
use Rattle.stored_sheet_lines.proofs.put_line.Goals as goal
use Rattle.stored_sheet_lines.proofs.put_line.Goals.{After-put_number-front}

-- a number that 64 bits hold, put in front of an octet
abbrev Put : List ℕ → ℕ → ℕ → ℤ → List ℕ → ℕ → Type 0
Put t at mark z after r = (after ≡ put_before (at - 1) z (set t (at - 1) mark)) × (r ≡ beginning (at - 1) z (set t (at - 1) mark))

-- what is made of the line when its last number is put, and that there is room for the next number

far : (line : LossLine) {given : ℤ} {t : List ℕ} {r : ℕ} → given ≡ line.far → SFits w64 line.far → Put (replicate 63 0) 63 10 given t r
    → Made t r (decimal line.far ++ (10 ∷ [])) × (42 ≤ r)
far line back fits put =
    let none = made_none (replicate 63 0) refl in (
      made_next none (omega arith) 10 line.far back fits put,
      omega (arith, made_room none (omega arith) 10 line.far back fits put),
    )

-- and when the one before it is put

near : (line : LossLine) {given : ℤ} {s t : List ℕ} {at r : ℕ} → Made s at (decimal line.far ++ (10 ∷ [])) × (42 ≤ at)
    → given ≡ line.near → SFits w64 line.near → Put s at 32 given t r
    → Made t r (decimal line.near ++ (32 ∷ (decimal line.far ++ (10 ∷ [])))) × (21 ≤ r)
near line f back fits put = (
  made_next f.0 (omega (arith, f.1)) 32 line.near back fits put,
  omega (arith, f.1, made_room f.0 (omega (arith, f.1)) 32 line.near back fits put),
)

-- the whole line

made : (p : After-put_number-front)
    → Made p.put_number-front.new.text p.put_number-front.result
    (decimal (pos p.args.line.intervals) ++ (32 ∷ (decimal p.args.line.near ++ (32 ∷ (decimal p.args.line.far ++ (10 ∷ []))))))
made p =
    let l = p.args.line in
    let n = near l (far l (search rules) (search rules) p.put_number-far.ensures) (search rules) (search rules) p.put_number-near.ensures in
    made_next n.0 n.1 32 (pos l.intervals) (to_z_pos w64 (omega arith)) (fits-size (pos l.intervals) (omega arith)) p.put_number-front.ensures

pub put_number-near-requires : goal.put_number-near-requires
put_number-near-requires c =
    let f = far c.args.line (search rules) (search rules) c.put_number-far.ensures in
    (omega (arith, f.1), omega (arith, f.0.long, f.0.reach))

pub put_number-front-requires : goal.put_number-front-requires
put_number-front-requires c =
    let l = c.args.line in
    let n = near l (far l (search rules) (search rules) c.put_number-far.ensures) (search rules) (search rules) c.put_number-near.ensures in
    (omega (arith, n.1), omega (arith, n.0.long, n.0.reach))

pub slice_bounds-copy_octets-start : goal.slice_bounds-copy_octets-start
slice_bounds-copy_octets-start c = omega (arith, (made (goal.at.slice_bounds-copy_octets-start c).After-put_number-front).reach)

pub slice_bounds-copy_octets-count : goal.slice_bounds-copy_octets-count
slice_bounds-copy_octets-count c = omega (arith, (made (goal.at.slice_bounds-copy_octets-count c).After-put_number-front).reach)

pub overflow_sub-result : goal.overflow_sub-result
overflow_sub-result c = omega (arith, (made (goal.at.overflow_sub-result c).After-put_number-front).reach)

pub returns : goal.returns
returns c =
    let a = c.args in
    line_copied a.at a.line a.into.now (made (goal.at.returns c).After-put_number-front) c.copy_octets.ensures
