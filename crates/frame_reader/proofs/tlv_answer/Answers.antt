-- `frame_reader::tlv_answer` meets its contract: what the search found, without its place.
use mathlib.Core.Path.{◌≡◌, refl, sym, ap, ◌∙◌}
use mathlib.Core.List.{List}
use Prim.Native.Nat.{ℕ}
use Rattle.std.specs.Prelude.{Bool, Result, Ok, Option, Some, None, is_some}
use Rattle.std.proofs.lemmas.Result.{err_from_is_err_and}
use Rattle.frame_seek.specs.declared.Span.{Span}
use Rattle.frame_reader_answer.specs.declared.Bad.{Bad}
use Rattle.frame_reader.specs.Reader.{answer_at, answer_of}
use Rattle.frame_reader_answer.specs.Told.{tlv_told}
use Rattle.frame_reader.specs.Numbers.{tlv_numbers}
use Rattle.frame_reader.proofs.Numbers.{agree}
use Rattle.frame_reader.proofs.tlv_answer.Goals as goal

-- that a value was found is that there is one
has-value : (o : Option Span) → answer_at (Ok o) ≡ Ok (is_some o)
has-value None = refl
has-value (Some value) = refl

-- an answer that is the definition's tells the paper's numbers
kept : (f : List ℕ) (kind : ℕ) (a : Result Bool Bad) → a ≡ answer_of f kind → (a ≡ answer_of f kind) × (tlv_told a ≡ tlv_numbers f kind)
kept f kind a e = (e, ap tlv_told e ∙ agree f kind)

pub returns-in_err-seek_frame : goal.returns-in_err-seek_frame
unfolding answer_of
returns-in_err-seek_frame c =
    let p = err_from_is_err_and c.from_residual.result c.from_residual.ensures.1 in
    rw (p.1, p.2) (kept _ _ _ (sym (ap answer_at (sym c.seek_frame.ensures.0 ∙ c.in_err-seek_frame.was))))

pub returns : goal.returns
unfolding answer_of
returns c =
    kept _ _ _ (ap Ok c.is_some.ensures ∙ sym (ap answer_at (sym c.seek_frame.ensures.0 ∙ c.in_ok-seek_frame.was) ∙ has-value _))
