-- `stored_line_calls::read_line` meets its contract: one law for each way that it ends.
use mathlib.Core.Bool.{not}
use mathlib.Core.Path.{ap}
use Rattle.stored_line.proofs.LineReads.{ends-head, long-enough, ends-rule, ends-line}
use borrow.Author.Rules.{rules}
use Rattle.stored_line_calls.proofs.read_line.Goals as goal

pub returns-then-not-is_record : goal.returns-then-not-is_record
returns-then-not-is_record c = let a = c.args in
    ends-head a.from.now c.is_record.ensures (ap not c.if-not-is_record.true)

pub line_in-line-requires : goal.line_in-line-requires
line_in-line-requires c = let a = c.args in
    long-enough a.from.now c.is_record.ensures (ap not c.if-not-is_record.false)

pub returns-then-not-keeps_rules : goal.returns-then-not-keeps_rules
returns-then-not-keeps_rules c = let s = c in
    let a = c.args in
    ends-rule a.from.now s.is_record.ensures (ap not s.if-not-is_record.false) c.line_in-line.ensures
    c.keeps_rules.ensures (ap not c.if-not-keeps_rules.true)

pub returns : goal.returns
returns c = let s = c in
    let a = c.args in
    ends-line a.from.now s.is_record.ensures (ap not s.if-not-is_record.false) c.line_in-line.ensures
    c.keeps_rules.ensures (ap not c.if-not-keeps_rules.false)
