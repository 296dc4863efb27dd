-- `frame_reader::tlv_value` meets its contract: the part that the search found, with its place; an empty one at the frame's start.
use native.Mathlib.Omega.{arith}
use native.Mathlib.Nat.{add-sub_cancel_left}
use mathlib.Core.Path.{◌≡◌, sym, ap, ◌∙◌, subst}
use mathlib.Core.List.{List}
use Prim.Native.Nat.{ℕ}
use lib.ListN.{take, drop}
use Rattle.std.specs.Prelude.{Result, Ok, Option}
use Rattle.frame_seek.specs.declared.Span.{Span}
use Rattle.frame_reader_answer.specs.declared.Bad.{Bad}
use Rattle.base_laws.specs.Lists.{part}
use Rattle.frame_seek.specs.Seek.{Within}
use Rattle.frame_reader.specs.Reader.{part_of, place_at, value_of, place_of}
use Rattle.frame_reader.proofs.tlv_value.Goals as goal

-- what is found lies in the frame

within_of : (f : List ℕ) {p q : Result (Option Span) Bad} → p ≡ q → Within f p → Within f q
within_of f e w = subst (λ (s : Result (Option Span) Bad). Within f s) e w

pub overflow_add-result : goal.overflow_add-result
overflow_add-result c = let w = within_of c.args.frame.now (c.in-Ok-Some.is ∙ ap Ok c.in-Ok-Some.field-0-is)
    c.seek_frame.ensures.1 in
    omega arith

pub returns-in-Ok-Some : goal.returns-in-Ok-Some
unfolding value_of place_of part
returns-in-Ok-Some c =
    let a = c.args in
    let k = c.in-Ok-Some in
    let e = sym c.seek_frame.ensures.0 ∙ (k.is ∙ ap Ok k.field-0-is) in (
      ap (λ (n : ℕ). take n (drop k.value.start a.frame.now)) (add-sub_cancel_left k.value.start k.value.len)
          ∙ sym (ap (part_of a.frame.now) e),
      sym (ap (place_at a.frame.ref_ptr) e),
    )

pub returns-in-Ok-None : goal.returns-in-Ok-None
unfolding value_of place_of
returns-in-Ok-None c = let a = c.args in
    let e = sym c.seek_frame.ensures.0 ∙ (c.in-Ok-None.is ∙ ap Ok c.in-Ok-None.field-0-is) in
    (sym (ap (part_of a.frame.now) e), sym (ap (place_at a.frame.ref_ptr) e))

pub returns-in-Err : goal.returns-in-Err
unfolding value_of place_of
returns-in-Err c = let a = c.args in
    let e = sym c.seek_frame.ensures.0 ∙ c.in-Err.is in
    (sym (ap (part_of a.frame.now) e), sym (ap (place_at a.frame.ref_ptr) e))
