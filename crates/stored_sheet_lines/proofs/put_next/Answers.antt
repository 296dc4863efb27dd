-- `stored_sheet_lines::put_next` meets its contract: the refusal at a bad record, the line of a good one.
use mathlib.Core.Path.{sym, ◌∙◌}
use Rattle.stored_sheet_lines.proofs.LinePieces.{next-refused, next-line}
use Rattle.stored_sheet_lines.proofs.put_next.Goals as goal

pub returns-in-None : goal.returns-in-None
returns-in-None c =
    let a = c.args in
    next-refused a.at a.from.now a.into.now (sym c.read_line.ensures.0 ∙ c.in-None.is) c.copy_octets.ensures

pub returns-in-Some : goal.returns-in-Some
returns-in-Some c =
    let a = c.args in
    next-line a.at a.from.now a.into.now c.in-Some.line (sym c.read_line.ensures.0 ∙ c.in-Some.is) c.put_line.ensures
