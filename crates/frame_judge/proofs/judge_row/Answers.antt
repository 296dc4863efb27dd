-- `frame_judge::judge_row` meets its contract: at each return the tests that led there pick the case of `judge_by`.
use native.Mathlib.Omega.{arith}
use mathlib.Core.Path.{sym}
use borrow.Author.Tests.{not-true, not-false}
use Rattle.frame_judge.proofs.Judged.{row-short, row-opcode, row-offset, row-tlvs}
use Rattle.frame_judge.proofs.judge_row.Goals as goal

pub returns-then-pdu-lt4 : goal.returns-then-pdu-lt4
returns-then-pdu-lt4 c = let a = c.args in
    sym (row-short a.rule a.pdu.now c.if-pdu-lt4.true)

pub returns-then-not-rule : goal.returns-then-not-rule
returns-then-not-rule c = let a = c.args in
    sym (row-opcode a.rule a.pdu.now (omega arith) (not-true _ c.if-not-rule.true))

pub returns-then-offset-rule : goal.returns-then-offset-rule
returns-then-offset-rule c = let a = c.args in
    sym (row-offset a.rule a.pdu.now (omega arith) (not-false _ c.if-not-rule.false) c.if-offset-rule.true)

pub overflow_add-result : goal.overflow_add-result
overflow_add-result c = omega (arith, c.shared_slice_known-1.given 3)

pub returns : goal.returns
returns c = let a = c.args in
    sym (row-tlvs a.rule a.pdu.now (omega arith) (not-false _ c.if-not-rule.false) c.if-offset-rule.false)
