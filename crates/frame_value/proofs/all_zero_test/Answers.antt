-- `frame_value::all_zero_test` meets its contract: the reader's answer, and the reader's part tested.
use mathlib.Core.Path.{ap, ap₂, sym, ◌∙◌}
use Rattle.std.specs.Prelude.{Ok}
use Rattle.std.proofs.lemmas.Result.{err_from_is_err_and}
use Rattle.frame_value.specs.Values.{zero_pattern, outcome_of}
use Rattle.frame_value.proofs.Numbers.{numbered, at_good, at_bad}
use Rattle.frame_value.proofs.all_zero_test.Goals as goal

pub returns-in_err-tlv_answer : goal.returns-in_err-tlv_answer
returns-in_err-tlv_answer c =
    let p = err_from_is_err_and c.from_residual.result c.from_residual.ensures.1 in
    rw (p.1, p.2) (numbered _ _ _ _ (at_bad _ _ _ (sym c.tlv_answer.ensures.0 ∙ c.in_err-tlv_answer.was)))

pub returns : goal.returns
returns c =
    numbered _ _ _ _ (ap Ok c.then_some.ensures
    ∙ at_good _ _ _ (sym c.tlv_answer.ensures.0 ∙ c.in_ok-tlv_answer.was)
    ∙ ap (outcome_of _) (c.zero_pattern-zeros.ensures ∙ ap zero_pattern c.tlv_value.ensures.0))
