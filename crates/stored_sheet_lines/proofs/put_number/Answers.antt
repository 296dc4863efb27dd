-- `stored_sheet_lines::put_number` meets its contract: one octet stored, and the number put before it.
use mathlib.Core.Path.{◌≡◌}
use mir.Syntax.{w64}
use mir.Val.{to_z, of_z}
use borrow.Author.Rules.{rules}
use Rattle.stored_sheet_lines.proofs.put_number.Goals as goal

-- the number comes back from its bits

pub returns : goal.returns
returns c =
    let back : to_z w64 (of_z w64 c.args.value) ≡ c.args.value = search rules in
    rw back at c.put_before.ensures
