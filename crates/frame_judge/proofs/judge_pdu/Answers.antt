-- `frame_judge::judge_pdu` meets its contract: the row of the opcode, where there is one, and what it says.
use native.Mathlib.Omega.{arith}
use mathlib.Core.Path.{sym, ap, ◌∙◌}
use Rattle.frame_opcodes.specs.declared.Rule.{Rule}
use Rattle.frame_judge.specs.Judge.{judge_by, judge_pdu}
use Rattle.frame_judge.proofs.Judged.{pdu-short}
use Rattle.frame_judge.proofs.judge_pdu.Goals as goal

pub returns-then-pdu-lt2 : goal.returns-then-pdu-lt2
returns-then-pdu-lt2 c = sym (pdu-short _ (omega (arith, c.if-pdu-lt2.true)))

pub returns : goal.returns
unfolding judge_pdu
returns c = c.judge_row.ensures
    ∙ ap (λ (r : Rule). judge_by r c.args.pdu.now) c.rule_of.ensures
