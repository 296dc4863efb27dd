-- The statements of specs/Told.antt. Assumes nothing.
use Prim.Native.Nat.{ℕ, zero, suc, ◌+◌}
use mathlib.Core.Path.{◌≡◌, refl, sym, ap, ◌∙◌}
use mathlib.Core.Bool.{Bool, true, false, cond}
use mathlib.Core.Logic.{⊎_elim}
use mathlib.Core.List.{List, [], ◌∷◌}
use lib.Dec.{eqb, ltb}
use lib.ListN.{length, drop}
use Rattle.std.specs.Prelude.{Result, Ok, Err, Option}
use Rattle.frame_seek.specs.declared.Span.{Span}
use Rattle.base_laws.specs.Tests.{choose}
use Rattle.base_laws.proofs.Tests.{known}
use Rattle.frame_reader_answer.specs.declared.Bad.{Bad}
use Rattle.frame_reader_answer.specs.declared.Bad.TheVariants.{Length, Short, Opcode, Offset, CutOff}
use Rattle.frame_tlvs.specs.declared.Place.{Place}
use Rattle.frame_tlvs.specs.declared.Place.TheVariants as place
use Rattle.frame_reader_answer.specs.declared.TlvTold.{TlvTold}
use Rattle.frame_head.specs.Head.{pdu_of, start_of}
use Rattle.frame_tlvs.specs.Tlvs.{length_of, walk, walk_from, is_cut}
use Rattle.frame_seek.specs.Seek.{wanted, whole, in_frame}
use Rattle.frame_reader.specs.Reader.{answer_at, answer_of}
use Rattle.frame_reader_answer.specs.Told.{tell_tlv, bad_of, tlv_told}
use Rattle.frame_reader.specs.Numbers.{is_found, tlv_numbers, ReaderNumbers}
use Rattle.frame_seek.proofs.Chain.{chained, through}

-- what is told of a place of the PDU, in numbers
found_told : (w : Place) → tlv_told (answer_at (in_frame (Ok (wanted w)))) ≡ cond (is_found w) (tell_tlv 0 0 1) (tell_tlv 0 0 0)
unfolding tlv_told
found_told (place.Found start len) = refl
found_told (place.End at) = refl
found_told (place.Cut at) = refl

whole-told : (ending w : Place) → tlv_told (answer_at (in_frame (whole ending w))) ≡ cond (is_cut ending) (tell_tlv 0 5 0)
    (cond (is_found w) (tell_tlv 0 0 1) (tell_tlv 0 0 0))
unfolding tlv_told bad_of
whole-told (place.Cut at) w = refl
whole-told (place.End at) w = found_told w
whole-told (place.Found start len) w = found_told w

pub agree : (f : List ℕ) (kind : ℕ) → tlv_told (answer_of f kind) ≡ tlv_numbers f kind
unfolding answer_of tlv_numbers chained choose tlv_told bad_of
agree f kind =
    let p = pdu_of f in
    let tell : Result (Option Span) Bad → TlvTold = λ s. tlv_told (answer_at s) in
    through tell f kind
    ∙ ap (λ (t : TlvTold). chained (λ b. tell (Err b)) f t) (whole-told (walk_from 0 (start_of p) p) (walk_from kind (start_of p) p))

-- the answer that is meant by its numbers
back : TlvTold → Result Bool Bad
back t =
    choose (
    (eqb t.refusal 1, Err Length)
    ∷ (eqb t.drop 1, Err Short)
    ∷ (eqb t.drop 3, Err Opcode)
    ∷ (eqb t.drop 4, Err Offset)
    ∷ (eqb t.drop 5, Err CutOff)
    ∷ (eqb t.value 1, (Ok true))
    ∷ [])
    (Ok false)

back-told : (a : Result Bool Bad) → back (tlv_told a) ≡ a
unfolding back choose tlv_told bad_of
back-told (Ok true) = refl
back-told (Ok false) = refl
back-told (Err Length) = refl
back-told (Err Short) = refl
back-told (Err Opcode) = refl
back-told (Err Offset) = refl
back-told (Err CutOff) = refl

bare : (b : Bad) → (tlv_told (Err b)).value ≡ 0
unfolding tlv_told bad_of
bare Length = refl
bare Short = refl
bare Opcode = refl
bare Offset = refl
bare CutOff = refl

-- ── type 0 ──

-- a walk for type 0 stops at an end or a cut
pub not_found : (left : ℕ) (xs : List ℕ) (at : ℕ) → is_found (walk 0 left xs at) ≡ false
unfolding walk
not_found left [] at = refl
not_found (suc left) (x ∷ xs) at = not_found left xs (at + 1)
not_found zero (t ∷ xs) at =
    ⊎_elim
    (λ (a : eqb t 0 ≡ true). rw a)
    (λ (a : eqb t 0 ≡ false).
    ⊎_elim
    (λ (b : ltb (length xs) (2 + length_of xs) ≡ true). rw (a, b))
    (λ (b : ltb (length xs) (2 + length_of xs) ≡ false). rw (a, b) (not_found (2 + length_of xs) xs (at + 1)))
    (known (ltb (length xs) (2 + length_of xs))))
    (known (eqb t 0))

-- so no number of the chain tells a value
no_value : (a b c d e g : Bool) → (choose ((a, tell_tlv 1 0 0) ∷ (b, tell_tlv 0 3 0) ∷ (c, tell_tlv 0 1 0) ∷ (d, tell_tlv 0 3 0)
    ∷ (e, tell_tlv 0 4 0) ∷ (g, tell_tlv 0 5 0) ∷ (false, tell_tlv 0 0 1) ∷ []) (tell_tlv 0 0 0)).value ≡ 0
unfolding choose
no_value true b c d e g = refl
no_value false true c d e g = refl
no_value false false true d e g = refl
no_value false false false true e g = refl
no_value false false false false true g = refl
no_value false false false false false true = refl
no_value false false false false false false = refl

never : (f : List ℕ) → (tlv_told (answer_of f 0)).value ≡ 0
unfolding tlv_numbers
never f =
    let p = pdu_of f in
    ap (λ (t : TlvTold). t.value) (agree f 0)
    ∙ rw (not_found 0 (drop (start_of p) p) (start_of p)) (no_value _ _ _ _ _ _)

pub reader-numbers : ReaderNumbers
reader-numbers = record { agree = agree; apart = λ a b e. sym (back-told a) ∙ ap back e ∙ back-told b; never = never; bare = bare }
