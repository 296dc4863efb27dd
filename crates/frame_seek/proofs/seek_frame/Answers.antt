-- `frame_seek::seek_frame` meets its contract: the frame's length and EtherType, then what is found in its PDU, at its place in the frame.
use native.Mathlib.Omega.{arith}
use mathlib.Core.Path.{◌≡◌, sym, ap, ◌∙◌}
use mathlib.Core.Bool.{true}
use mathlib.Core.List.{List}
use Prim.Native.Nat.{ℕ}
use lib.ListN.{length}
use Rattle.std.specs.Prelude.{Result, Ok, Option}
use Rattle.std.proofs.lemmas.Result.{err_from_is_err_and}
use Rattle.frame_seek.specs.declared.Span.{Span}
use Rattle.frame_reader_answer.specs.declared.Bad.{Bad}
use Rattle.frame_head.specs.Head.{is_oam, length_good, pdu_of}
use Rattle.frame_head.proofs.Heads.{headed, oam-is}
use Rattle.frame_seek.specs.Seek.{in_frame, seek_in, seek_of, Within}
use Rattle.frame_seek.proofs.Seeks.{of_length, of-service, of-pdu, within}
use Rattle.frame_seek.proofs.seek_frame.Goals as goal

-- past both tests the PDU decides: what was found in it is put at its place in the frame, and lies in the frame
module _ (frame : List ℕ) (kind : ℕ) (is-good : length_good frame ≡ true) (oam : is_oam frame ≡ true) where
  found : {r s : Result (Option Span) Bad} {p : List ℕ} → r ≡ seek_in p kind → p ≡ pdu_of frame → r ≡ s → in_frame s ≡ seek_of frame kind
  found is pdu e =
      ap in_frame (sym e ∙ is ∙ ap (λ (p : List ℕ). seek_in p kind) pdu)
      ∙ sym (of-pdu frame kind is-good oam)

  lies : {r s : Result (Option Span) Bad} {p : List ℕ} → Within p r → p ≡ pdu_of frame → r ≡ s → Within frame (in_frame s)
  lies {s = s} w pdu e = within frame s (headed frame is-good) (rw pdu at (rw e at w))

pub returns-then-not-length_good : goal.returns-then-not-length_good
returns-then-not-length_good c = (sym (of_length _ _ (sym c.length_good.ensures ∙ c.if-not-length_good.true)), tt)

pub returns-then-not-is_oam : goal.returns-then-not-is_oam
returns-then-not-is_oam c =
    let good : length_good c.args.frame.now ≡ true = sym c.length_good.ensures ∙ c.if-not-length_good.false in
    let f = c.args.frame.now in
    (sym (of-service f _ good (sym (oam-is f good) ∙ sym c.is_oam.ensures ∙ c.if-not-is_oam.true)), tt)

pub overflow_add-result : goal.overflow_add-result
overflow_add-result c =
    let f = c.args.frame.now in
    let good : length_good f ≡ true = sym c.length_good.ensures ∙ c.if-not-length_good.false in
    let oam : is_oam f ≡ true = sym (oam-is f good) ∙ sym c.is_oam.ensures ∙ c.if-not-is_oam.false in
    omega (arith, lies f c.args.kind good oam c.seek_pdu.ensures.1 c.pdu_of.ensures.0 (c.in_ok-value.was ∙ ap Ok c.in-Some.is))

pub returns-in-Some : goal.returns-in-Some
returns-in-Some c =
    let f = c.args.frame.now in
    let good : length_good f ≡ true = sym c.length_good.ensures ∙ c.if-not-length_good.false in
    let oam : is_oam f ≡ true = sym (oam-is f good) ∙ sym c.is_oam.ensures ∙ c.if-not-is_oam.false in
    let pdu = c.pdu_of.ensures.0 in
    let seek = c.seek_pdu.ensures in
    (found f c.args.kind good oam seek.0 pdu (c.in_ok-value.was ∙ ap Ok c.in-Some.is), lies f c.args.kind good oam seek.1 pdu (c.in_ok-value.was ∙ ap Ok c.in-Some.is))

pub returns-in-None : goal.returns-in-None
returns-in-None c =
    let f = c.args.frame.now in
    let good : length_good f ≡ true = sym c.length_good.ensures ∙ c.if-not-length_good.false in
    let oam : is_oam f ≡ true = sym (oam-is f good) ∙ sym c.is_oam.ensures ∙ c.if-not-is_oam.false in
    (found f c.args.kind good oam c.seek_pdu.ensures.0 c.pdu_of.ensures.0 (c.in_ok-value.was ∙ ap Ok c.in-None.is), tt)

pub returns-in_err-value : goal.returns-in_err-value
returns-in_err-value c =
    let f = c.args.frame.now in
    let good : length_good f ≡ true = sym c.length_good.ensures ∙ c.if-not-length_good.false in
    let oam : is_oam f ≡ true = sym (oam-is f good) ∙ sym c.is_oam.ensures ∙ c.if-not-is_oam.false in
    let p = err_from_is_err_and c.from_residual.result c.from_residual.ensures.1 in
    rw (p.1, p.2) (found f c.args.kind good oam c.seek_pdu.ensures.0 c.pdu_of.ensures.0 c.in_err-value.was, tt)
