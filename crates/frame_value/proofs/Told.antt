-- The statement of specs/Told.antt: the answer is found from its numbers. Assumes nothing.
use mathlib.Core.Path.{◌≡◌, refl, ap, sym, ◌∙◌}
use mathlib.Core.Bool.{Bool, true, false}
use mathlib.Core.List.{[], ◌∷◌}
use Rattle.std.specs.Prelude.{Option, Some, None, Result, Ok, Err}
use lib.Dec.{eqb}
use Rattle.base_laws.specs.Tests.{choose}
use Rattle.frame_reader_answer.specs.declared.Bad.TheVariants.{Length, Short, Opcode, Offset, CutOff}
use Rattle.frame_reader_answer.specs.Told.{bad_of}
use Rattle.frame_reader_answer.specs.declared.Bad.{Bad}
use Rattle.frame_value.specs.declared.ValueTold.{ValueTold}
use Rattle.frame_value.specs.Told.{value_told, ValueNumbers}

-- the answer that is meant by its numbers
back : ValueTold → Result (Option Bool) Bad
back t =
    choose (
    (eqb t.refusal 1, Err Length)
    ∷ (eqb t.drop 1, Err Short)
    ∷ (eqb t.drop 3, Err Opcode)
    ∷ (eqb t.drop 4, Err Offset)
    ∷ (eqb t.drop 5, Err CutOff)
    ∷ (eqb t.holds 1, Ok (Some true))
    ∷ (eqb t.value 1, Ok (Some false))
    ∷ [])
    (Ok None)

back-told : (a : Result (Option Bool) Bad) → back (value_told a) ≡ a
unfolding back choose value_told bad_of
back-told (Ok (Some true)) = refl
back-told (Ok (Some false)) = refl
back-told (Ok None) = refl
back-told (Err Length) = refl
back-told (Err Short) = refl
back-told (Err Opcode) = refl
back-told (Err Offset) = refl
back-told (Err CutOff) = refl

pub value-numbers : ValueNumbers
value-numbers = record { apart = λ a b e. sym (back-told a) ∙ ap back e ∙ back-told b }
