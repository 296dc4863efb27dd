-- What an answer tells is what the reader tells, and whether the value holds. Assumes nothing.
use Prim.Native.Nat.{ℕ}
use mathlib.Core.Path.{◌≡◌, refl, ap, sym, ◌∙◌}
use mathlib.Core.Bool.{Bool, true, false}
use mathlib.Core.List.{List}
use Rattle.std.specs.Prelude.{Result, Ok, Err, Option}
use Rattle.std.specs.Bool.{then_some}
use Rattle.frame_reader_answer.specs.declared.Bad.{Bad}
use Rattle.frame_reader_answer.specs.declared.Bad.TheVariants.{Length, Short, Opcode, Offset, CutOff}
use Rattle.frame_reader_answer.specs.declared.TlvTold.{TlvTold}
use Rattle.frame_reader.specs.Reader.{answer_of}
use Rattle.frame_reader_answer.specs.Told.{bad_of, tlv_told}
use Rattle.frame_reader.specs.Numbers.{tlv_numbers}
use Rattle.frame_reader.proofs.Numbers.{agree}
use Rattle.frame_value.specs.Told.{value_told}
use Rattle.frame_value.specs.Values.{outcome_of}
use Rattle.frame_value.specs.Numbers.{with_holds}

pub tells : (a : Result Bool Bad) (holds : Bool) → value_told (outcome_of a holds) ≡ with_holds (tlv_told a) holds
unfolding value_told outcome_of tlv_told bad_of
tells (Ok true) true = refl
tells (Ok true) false = refl
tells (Ok false) holds = refl
tells (Err Length) holds = refl
tells (Err Short) holds = refl
tells (Err Opcode) holds = refl
tells (Err Offset) holds = refl
tells (Err CutOff) holds = refl

-- what the reader said decides: its reason, or the test of the value where there is one
pub at_bad : (a : Result Bool Bad) (b : Bad) (holds : Bool) → a ≡ Err b → Err b ≡ outcome_of a holds
unfolding outcome_of
at_bad a b holds e = sym (ap (λ (x : Result Bool Bad). outcome_of x holds) e)

pub at_good : (a : Result Bool Bad) (there holds : Bool) → a ≡ Ok there → Ok (then_some there holds) ≡ outcome_of a holds
unfolding outcome_of
at_good a true holds e = sym (ap (λ (x : Result Bool Bad). outcome_of x holds) e)
at_good a false holds e = sym (ap (λ (x : Result Bool Bad). outcome_of x holds) e)

-- an answer that is the definition's tells the reader's numbers, and whether the value holds
pub numbered : (f : List ℕ) (kind : ℕ) (holds : Bool) (r : Result (Option Bool) Bad) → r ≡ outcome_of (answer_of f kind) holds
    → (r ≡ outcome_of (answer_of f kind) holds) × (value_told r ≡ with_holds (tlv_numbers f kind) holds)
numbered f kind holds r e = (e, ap value_told e ∙ tells (answer_of f kind) holds ∙ ap (λ (t : TlvTold). with_holds t holds) (agree f kind))
