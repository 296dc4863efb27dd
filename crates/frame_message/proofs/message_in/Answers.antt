-- `frame_message::message_in` meets its contract: the reason before the TLVs, then D5, then D7, or the opcode.
use mathlib.Core.Path.{◌≡◌, sym, ap, ap₂, ◌∙◌}
use mathlib.Core.Bool.{true, false}
use mathlib.Core.List.{List}
use Prim.Native.Nat.{ℕ}
use Rattle.std.specs.Prelude.{Result, Ok, Err}
use Rattle.frame_message_answer.specs.declared.NoMessage.TheVariants.{PeriodCode}
use Rattle.frame_reader_answer.specs.declared.Bad.{Bad}
use Rattle.std.proofs.lemmas.Result.{err_from_is_err_and}
use Rattle.frame_opcodes.specs.declared.Rule.{Rule}
use Rattle.frame_opcodes.specs.Opcodes.{rule_of}
use Rattle.frame_head.specs.Head.{opcode_of, flags_of}
use Rattle.frame_judge.specs.Judge.{judge_by, judge_pdu}
use Rattle.frame_judge.proofs.Judged.{pdu-short}
use Rattle.frame_message.specs.Message.{period_code, code_good, judged_of, message_in}
use Rattle.frame_message.proofs.InPdu.{bad-head, cut_off, let_through}
use Rattle.frame_message.proofs.message_in.Goals as goal

-- D7, or which message it is

bad-code : (op flags : ℕ) → code_good (rule_of op) (period_code flags) ≡ false → judged_of op flags ≡ Err PeriodCode
unfolding judged_of
bad-code op flags e = rw e

good-code : (op flags : ℕ) → code_good (rule_of op) (period_code flags) ≡ true → judged_of op flags ≡ Ok op
unfolding judged_of
good-code op flags e = rw e

-- ── what each call found ──

judged : (p : List ℕ) (rule : Rule) {r h : Result ℕ Bad} → r ≡ judge_by rule p → rule ≡ rule_of (opcode_of p) → r ≡ h → judge_pdu p ≡ h
unfolding judge_pdu
judged p rule is row e = sym (is ∙ ap (λ (x : Rule). judge_by x p) row) ∙ e

-- ── case by case ──

pub returns-then-pdu-lt4 : goal.returns-then-pdu-lt4
returns-then-pdu-lt4 c =
    let pdu : List ℕ = c.args.pdu.now in
    sym (bad-head _ _ (pdu-short pdu c.if-pdu-lt4.true))

pub returns-in_err-start : goal.returns-in_err-start
returns-in_err-start c =
    let p = err_from_is_err_and c.from_residual.result c.from_residual.ensures.1 in
    rw (p.1, p.2)
    (sym (bad-head _ _ (judged c.args.pdu.now c.rule_of-rule.result c.judge_row.ensures c.rule_of-rule.ensures c.in_err-start.was)))

pub returns-then-not-tlvs_whole : goal.returns-then-not-tlvs_whole
returns-then-not-tlvs_whole c =
    let pdu : List ℕ = c.args.pdu.now in
    let starts : judge_pdu pdu ≡ Ok c.in_ok-start.start = judged c.args.pdu.now c.rule_of-rule.result c.judge_row.ensures c.rule_of-rule.ensures c.in_ok-start.was in
    sym (cut_off _ _ starts (sym c.tlvs_whole.ensures ∙ c.if-not-tlvs_whole.true))

pub returns-then-not-code_good : goal.returns-then-not-code_good
returns-then-not-code_good c =
    let pdu : List ℕ = c.args.pdu.now in
    let starts : judge_pdu pdu ≡ Ok c.in_ok-start.start = judged c.args.pdu.now c.rule_of-rule.result c.judge_row.ensures c.rule_of-rule.ensures c.in_ok-start.was in
    let through : message_in pdu ≡ judged_of (opcode_of pdu) (flags_of pdu) = let_through _ _ starts (sym c.tlvs_whole.ensures
    ∙ c.if-not-tlvs_whole.false) in
    let coded : code_good (rule_of (opcode_of pdu)) (period_code (flags_of pdu)) ≡ c.code_good.result = sym (c.code_good.ensures
    ∙ ap₂ code_good c.rule_of-rule.ensures c.period_code_of.ensures) in
    sym (through ∙ bad-code _ _ (coded ∙ c.if-not-code_good.true))

pub returns : goal.returns
returns c =
    let pdu : List ℕ = c.args.pdu.now in
    let starts : judge_pdu pdu ≡ Ok c.in_ok-start.start = judged c.args.pdu.now c.rule_of-rule.result c.judge_row.ensures c.rule_of-rule.ensures c.in_ok-start.was in
    let through : message_in pdu ≡ judged_of (opcode_of pdu) (flags_of pdu) = let_through _ _ starts (sym c.tlvs_whole.ensures
    ∙ c.if-not-tlvs_whole.false) in
    let coded : code_good (rule_of (opcode_of pdu)) (period_code (flags_of pdu)) ≡ c.code_good.result = sym (c.code_good.ensures
    ∙ ap₂ code_good c.rule_of-rule.ensures c.period_code_of.ensures) in
    let e = c in
    sym (through ∙ good-code _ _ (coded ∙ e.if-not-code_good.false))
