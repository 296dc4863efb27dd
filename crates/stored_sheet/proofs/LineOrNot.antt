-- A record reads as a line, or it is refused. Assumes nothing.
use Prim.Native.Nat.{ℕ, ◌≤◌, ◌<◌}
use mathlib.Core.Path.{◌≡◌, refl, sym, ap, ◌∙◌}
use mathlib.Core.List.{List}
use mathlib.Core.Bool.{true, false, true≢false}
use mathlib.Core.Logic.{inl, ⊎_elim}
use native.Mathlib.Omega.{arith}
use lib.Dec.{leb}
use lib.ListN.{length}
use borrow.Author.Tests.{leb-true, leb-false}
use Rattle.std.specs.Prelude.{Option, Some, None}
use Rattle.base_laws.proofs.Tests.{known}
use Rattle.stored_record.specs.Record.{cut_short}
use Rattle.stored_line.specs.declared.LossLine.{LossLine}
use Rattle.stored_line.specs.LineCalls.{read_line}
use Rattle.stored_line.proofs.LineRecords.{loss-records}
use Rattle.stored_sheet.specs.Sheet.{is_line}

pub data Read (octets : List ℕ) : Type 0 where
  a_line : (line : LossLine) → read_line octets ≡ Some line → Read octets
  refused : read_line octets ≡ None → Read octets

pub read : (octets : List ℕ) → Read octets
read octets = by (read_line octets) refl
  where
    by : (answer : Option LossLine) → read_line octets ≡ answer → Read octets
    by None e = refused e
    by (Some line) e = a_line line e

pub is-line : (octets : List ℕ) (line : LossLine) → read_line octets ≡ Some line → is_line (read_line octets) ≡ true
unfolding is_line
is-line octets line e = ap is_line e

pub is-refused : (octets : List ℕ) → read_line octets ≡ None → is_line (read_line octets) ≡ false
unfolding is_line
is-refused octets e = ap is_line e

pub few-refused : (octets : List ℕ) → length octets < 24 → read_line octets ≡ None
few-refused octets few = (loss-records.refuses_7 octets).1 (inl (cut_short (omega (arith, few))))

-- a record that reads as a line is whole
pub whole_record : (octets : List ℕ) → is_line (read_line octets) ≡ true → 24 ≤ length octets
whole_record octets h =
    ⊎_elim
    (leb-true 24 (length octets))
    (λ f. absurd (true≢false (sym h ∙ is-refused octets (few-refused octets (leb-false 24 (length octets) f)))))
    (known (leb 24 (length octets)))
