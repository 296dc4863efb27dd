-- Which message a PDU is, case by case; and that a frame is the message that its PDU is. Assumes nothing.
use Prim.Native.Nat.{ℕ}
use mathlib.Core.Path.{◌≡◌, refl, ap, ◌∙◌}
use mathlib.Core.Bool.{Bool, true, false}
use mathlib.Core.List.{List}
use borrow.Author.Tests.{not-true, not-false}
use Rattle.std.specs.Prelude.{Result, Ok, Err, Option, Some, None}
use Rattle.frame_seek.specs.declared.Span.{Span}
use Rattle.frame_message_answer.specs.declared.NoMessage.{NoMessage}
use Rattle.frame_message_answer.specs.declared.NoMessage.TheVariants.{Bad}
use Rattle.frame_reader_answer.specs.declared.Bad.{Bad as Reason}
use Rattle.frame_reader_answer.specs.declared.Bad.TheVariants.{Length, Opcode, CutOff}
use Rattle.frame_tlvs.specs.declared.Place.{Place}
use Rattle.frame_tlvs.specs.declared.Place.TheVariants.{End, Found, Cut}
use Rattle.frame_head.specs.Head.{is_oam, length_good, pdu_of, opcode_of, flags_of}
use Rattle.frame_tlvs.specs.Tlvs.{walk_from, is_cut, tlvs_whole}
use Rattle.frame_judge.specs.Judge.{judge_pdu}
use Rattle.frame_seek.specs.Seek.{wanted, in_frame, seek_in}
use Rattle.frame_seek.proofs.Seeks.{in_bad, in_tlvs, of_length, of-service, of-pdu}
use Rattle.frame_reader.specs.Reader.{answer_at, answer_of}
use Rattle.frame_message.specs.Message.{judged_of, unless_bad, message_in, message_of}

-- ── a PDU ──

-- what a walk for type 0 gives is no reason
passes : (w : Place) (m : Result ℕ NoMessage) → unless_bad (answer_at (Ok (wanted w))) m ≡ m
passes (Found start len) m = refl
passes (End at) m = refl
passes (Cut at) m = refl

module _ (p : List ℕ) where
  abbrev by : Result (Option Span) Reason → Result ℕ NoMessage
  by s = unless_bad (answer_at s) (judged_of (opcode_of p) (flags_of p))

  pub bad-head : (b : Reason) → judge_pdu p ≡ Err b → message_in p ≡ Err (Bad b)
  unfolding message_in
  bad-head b e = ap by (in_bad p 0 b e)

  module _ (start : ℕ) (e : judge_pdu p ≡ Ok start) where
    pub cut_off : tlvs_whole start p ≡ false → message_in p ≡ Err (Bad CutOff)
    unfolding message_in
    cut_off h = ap by (in_tlvs p 0 start e) ∙ rw (not-false (is_cut (walk_from 0 start p)) h)

    pub let_through : tlvs_whole start p ≡ true → message_in p ≡ judged_of (opcode_of p) (flags_of p)
    unfolding message_in
    let_through h = ap by (in_tlvs p 0 start e) ∙ rw (not-true (is_cut (walk_from 0 start p)) h) (passes (walk_from 0 start p) _)

-- ── a frame ──

-- where the value stands is not told
placeless : (s : Result (Option Span) Reason) → answer_at (in_frame s) ≡ answer_at s
placeless (Ok (Some value)) = refl
placeless (Ok None) = refl
placeless (Err b) = refl

module _ (f : List ℕ) where
  abbrev told : Result Bool Reason → Result ℕ NoMessage
  told a = unless_bad a (judged_of (opcode_of (pdu_of f)) (flags_of (pdu_of f)))

  pub frame-length : length_good f ≡ false → message_of f ≡ Err (Bad Length)
  unfolding message_of answer_of
  frame-length h = ap (λ (s : Result (Option Span) Reason). told (answer_at s)) (of_length f 0 h)

  module _ (good : length_good f ≡ true) where
    pub frame-service : is_oam f ≡ false → message_of f ≡ Err (Bad Opcode)
    unfolding message_of answer_of
    frame-service n = ap (λ (s : Result (Option Span) Reason). told (answer_at s)) (of-service f 0 good n)

    pub frame-pdu : is_oam f ≡ true → message_of f ≡ message_in (pdu_of f)
    unfolding message_of answer_of message_in
    frame-pdu e = ap told (ap answer_at (of-pdu f 0 good e) ∙ placeless (seek_in (pdu_of f) 0))
