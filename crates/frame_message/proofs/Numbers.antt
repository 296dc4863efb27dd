-- The statements of specs/Told.antt: what an answer on a message tells is the one chain of numbers. Assumes nothing.
use Prim.Native.Nat.{ℕ}
use mathlib.Core.Path.{◌≡◌, refl, sym, ap, ◌∙◌}
use mathlib.Core.Bool.{Bool, true, false, not}
use mathlib.Core.List.{List, [], ◌∷◌}
use mathlib.Core.Logic.{⊎_elim}
use borrow.Author.Tests.{not-true}
use Rattle.std.specs.Prelude.{Result, Ok, Err}
use Rattle.frame_message_answer.specs.declared.NoMessage.{NoMessage}
use Rattle.frame_reader_answer.specs.declared.Bad.{Bad}
use Rattle.base_laws.specs.Tests.{choose}
use Rattle.base_laws.proofs.Tests.{known as if-known}
use Rattle.frame_opcodes.specs.Opcodes.{rule_of}
use Rattle.frame_reader_answer.specs.declared.Bad.TheVariants.{Length, Short, Opcode, Offset, CutOff}
use Rattle.frame_reader_answer.specs.declared.TlvTold.{TlvTold}
use Rattle.frame_head.specs.Head.{pdu_of, opcode_of, flags_of}
use Rattle.frame_reader.specs.Reader.{answer_of}
use Rattle.frame_reader_answer.specs.Told.{bad_of, tlv_told}
use Rattle.frame_reader.specs.Numbers as Reader
use Rattle.frame_reader.proofs.Numbers.{agree as reader-agree}
use Rattle.frame_message_answer.specs.declared.MessageTold.{MessageTold}
use Rattle.frame_message.specs.Good.{Good, is_bad}
use Rattle.frame_message.specs.Message.{period_code, code_good, judged_of, unless_bad, message_of}
use Rattle.frame_message_answer.specs.Told.{message_told}
use Rattle.frame_message.specs.Told.{is_good, behind, message_numbers, good_opcode, MessageNumbers}
use Rattle.frame_message.proofs.Goods.{good_frames}

-- ── what is told ──

-- of a message that the reader lets through
judged_told : (op flags : ℕ) → message_told (judged_of op flags) ≡ behind (tlv_told (Ok false)) op flags
unfolding message_told judged_of tlv_told choose
judged_told op flags =
    ⊎_elim
    (λ (t : code_good (rule_of op) (period_code flags) ≡ true). rw t)
    (λ (t : code_good (rule_of op) (period_code flags) ≡ false). rw t)
    (if-known (code_good (rule_of op) (period_code flags)))

tells : (a : Result Bool Bad) (op flags : ℕ) → message_told (unless_bad a (judged_of op flags)) ≡ behind (tlv_told a) op flags
unfolding message_told tlv_told bad_of choose
tells (Ok false) op flags = judged_told op flags
tells (Ok true) op flags = judged_told op flags
tells (Err Length) op flags = refl
tells (Err Short) op flags = refl
tells (Err Opcode) op flags = refl
tells (Err Offset) op flags = refl
tells (Err CutOff) op flags = refl

pub agree : (f : List ℕ) → message_told (message_of f) ≡ message_numbers f
unfolding message_of
agree f =
    tells (answer_of f 0) (opcode_of (pdu_of f)) (flags_of (pdu_of f))
    ∙ ap (λ (t : TlvTold). behind t (opcode_of (pdu_of f)) (flags_of (pdu_of f))) (reader-agree f 0)

-- an answer that is the definition's tells the chain's numbers
pub numbered : (f : List ℕ) (r : Result ℕ NoMessage) → r ≡ message_of f → (r ≡ message_of f) × (message_told r ≡ message_numbers f)
numbered f r e = (e, ap message_told e ∙ agree f)

-- ── the opcode that is told ──

good-told : (a : Result Bool Bad) → is_good (tlv_told a) ≡ not (is_bad a)
unfolding tlv_told bad_of
good-told (Ok false) = refl
good-told (Ok true) = refl
good-told (Err Length) = refl
good-told (Err Short) = refl
good-told (Err Opcode) = refl
good-told (Err Offset) = refl
good-told (Err CutOff) = refl

-- no reason is told exactly of a good frame
good-is : (f : List ℕ) → is_good (Reader.tlv_numbers f 0) ≡ not (is_bad (answer_of f 0))
good-is f = ap is_good (sym (reader-agree f 0)) ∙ good-told (answer_of f 0)

-- which of the three is told
last : (a b : Bool) (x y z : MessageTold) → a ≡ true → b ≡ true → choose ((not a, x) ∷ (not b, y) ∷ []) z ≡ z
unfolding choose
last a b x y z e h = rw (e, h)

second : (a b : Bool) (x y z : MessageTold) → a ≡ true → b ≡ false → choose ((not a, x) ∷ (not b, y) ∷ []) z ≡ y
unfolding choose
second a b x y z e h = rw (e, h)

first : (a b : Bool) (x y z : MessageTold) → a ≡ false → choose ((not a, x) ∷ (not b, y) ∷ []) z ≡ x
unfolding choose
first a b x y z e = rw e

module _ (f : List ℕ) where
  code : Bool
  code = code_good (rule_of (opcode_of (pdu_of f))) (period_code (flags_of (pdu_of f)))

  pub opcode : Good f → code_good (rule_of (opcode_of (pdu_of f))) (period_code (flags_of (pdu_of f))) ≡ true → good_opcode f ≡ opcode_of (pdu_of f)
  opcode g c = ap (λ (t : MessageTold). t.opcode) (last _ _ _ _ _ (good-is f ∙ ap not ((good_frames.read f 0).1 g)) c)

  pub only : (good_opcode f ≡ 0 → ⊥)
      → Good f × (good_opcode f ≡ opcode_of (pdu_of f)) × (code_good (rule_of (opcode_of (pdu_of f))) (period_code (flags_of (pdu_of f))) ≡ true)
  unfolding code
  only n =
      ⊎_elim
      (λ (t : is_good (Reader.tlv_numbers f 0) ≡ true).
      ⊎_elim
      (λ (c : code ≡ true). (
        (good_frames.read f 0).0 (not-true (is_bad (answer_of f 0)) (sym (good-is f) ∙ t)),
        ap (λ (m : MessageTold). m.opcode) (last _ _ _ _ _ t c),
        c,
      ))
      (λ (c : code ≡ false). absurd (n (ap (λ (m : MessageTold). m.opcode) (second _ _ _ _ _ t c))))
      (if-known code))
      (λ (t : is_good (Reader.tlv_numbers f 0) ≡ false). absurd (n (ap (λ (m : MessageTold). m.opcode) (first _ code _ _ _ t))))
      (if-known (is_good (Reader.tlv_numbers f 0)))

pub message-numbers : MessageNumbers
message-numbers = record { agree = agree; opcode = opcode; only = only }
