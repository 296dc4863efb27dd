-- `frame_value::same_data` meets its contract: the reader's answer, and the reader's part compared.
use mathlib.Core.Path.{ap, sym, ◌∙◌}
use mathlib.Core.List.{List}
use Prim.Native.Nat.{ℕ}
use Rattle.std.specs.Prelude.{Ok}
use Rattle.std.proofs.lemmas.Result.{err_from_is_err_and}
use Rattle.base_laws.specs.Lists.{same}
use Rattle.frame_value.specs.Values.{outcome_of}
use Rattle.frame_value.proofs.Numbers.{numbered, at_good, at_bad}
use Rattle.frame_value.proofs.same_data.Goals as goal

pub returns-in_err-tlv_answer : goal.returns-in_err-tlv_answer
returns-in_err-tlv_answer c =
    let p = err_from_is_err_and c.from_residual.result c.from_residual.ensures.1 in
    rw (p.1, p.2) (numbered _ _ _ _ (at_bad _ _ _ (sym c.tlv_answer.ensures.0 ∙ c.in_err-tlv_answer.was)))

pub returns : goal.returns
returns c = let a = c.args in
    numbered _ _ _ _ (ap Ok c.then_some.ensures
    ∙ at_good _ _ _ (sym c.tlv_answer.ensures.0 ∙ c.in_ok-tlv_answer.was)
    ∙ ap (outcome_of _) (c.same_octets-same.ensures
    ∙ ap (λ (v : List ℕ). same v a.octets.now) c.tlv_value.ensures.0))
