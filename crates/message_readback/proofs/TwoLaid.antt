-- A reply over which two values are laid, one behind the other: what it keeps of the request, and the words of either. Assumes nothing.
use Prim.Native.Nat.{ℕ, ◌+◌, ◌≤◌}
use mathlib.Core.Path.{◌≡◌, sym, ap, ◌∙◌}
use mathlib.Core.Bool.{true}
use mathlib.Core.List.{List}
use native.Mathlib.Omega.{arith}
use lib.ListN.{length, drop}
use Rattle.base_laws.specs.Lists.{part, laid}
use Rattle.base_laws.proofs.Apart.{part-before, drop-after, part-within}
use Rattle.base_numbers.specs.Numbers.{number, big_endian}
use Rattle.frame_opcodes.specs.Opcodes.{rule_of}
use Rattle.frame_message.specs.Message.{code_good}
use Rattle.frame_message.specs.Told.{good_opcode}
use Rattle.message_readback.specs.Replies.{Answers}
use Rattle.frame_head.specs.Head.{pdu_of, word}
use Rattle.message_reply.specs.Replies.{reply_octets}
use Rattle.message_readback.proofs.WordsRead.{alike, in_pdu}
use Rattle.message_readback.proofs.AnswerReads.{answers, opcode-told}
use Rattle.message_readback.proofs.RequestKnown.{Request}
use Rattle.message_readback.proofs.Kept.{Head, reply-head, reply_tail, over}
use Rattle.message_readback.proofs.AnswerReads.{answers, opcode-told}

-- two values of m octets, one behind the other, laid over a reply from `at` of the PDU on
module _ (own request : List ℕ) (op at m : ℕ) (xs ys : List ℕ) (o : length own ≡ 6) (hx : length xs ≡ m) (hy : length ys ≡ m)
    (low : 4 ≤ at) (room : 14 + (at + m) + m ≤ length request) where
  abbrev reply : List ℕ
  reply = reply_octets own op request

  abbrev one : List ℕ
  one = laid (14 + at) xs reply

  abbrev both : List ℕ
  both = laid (14 + (at + m)) ys one

  head0 : Head own request op reply
  head0 = reply-head own request op o (omega arith)

  fit0 : 14 + at + length xs ≤ length reply
  fit0 = omega (arith, head0.long)

  head1 : Head own request op one
  head1 = over (14 + at) xs reply (omega arith) fit0 head0

  fit1 : 14 + (at + m) + length ys ≤ length one
  fit1 = omega (arith, head1.long)

  head2 : Head own request op both
  head2 = over (14 + (at + m)) ys one (omega arith) fit1 head1

  tail : (k : ℕ) → 14 + (at + m) + m ≤ k → drop k both ≡ drop k request
  tail k h =
      drop-after 0 (14 + (at + m)) ys one fit1 k (omega arith)
      ∙ drop-after 0 (14 + at) xs reply fit0 k (omega arith)
      ∙ reply_tail own request op o (omega arith) k (omega arith)

  -- a word before them is the request's
  word_kept : (k : ℕ) → 4 + k + 4 ≤ at → word (4 + k) (pdu_of both) ≡ word (4 + k) (pdu_of request)
  word_kept k h =
      let e : 14 + (4 + k) ≡ 18 + k = omega arith in
      let in_frame : (f : List ℕ) → part (4 + k) 4 (pdu_of f) ≡ part (18 + k) 4 f = λ f. in_pdu (4 + k) 4 f ∙ ap (λ (p : ℕ). part p 4 f) e in
      ap (number big_endian) (in_frame both
      ∙ part-before 0 (14 + (at + m)) ys one fit1 (18 + k) 4 (omega arith)
      ∙ part-before 0 (14 + at) xs reply fit0 (18 + k) 4 (omega arith)
      ∙ alike 18 k 4 reply request (reply_tail own request op o (omega arith) 18 (omega arith))
      ∙ sym (in_frame request))

  -- a word of either is what was laid
  word_first : (k : ℕ) → k + 4 ≤ m → word (at + k) (pdu_of both) ≡ word k xs
  word_first k h =
      let e : 14 + (at + k) ≡ 14 + at + k = omega arith in
      ap (number big_endian) (in_pdu (at + k) 4 both
      ∙ ap (λ (p : ℕ). part p 4 both) e
      ∙ part-before 0 (14 + (at + m)) ys one fit1 (14 + at + k) 4 (omega arith)
      ∙ part-within (14 + at) xs reply k 4 fit0 (omega arith))

  word-second : (k : ℕ) → k + 4 ≤ m → word (at + m + k) (pdu_of both) ≡ word k ys
  word-second k h =
      let e : 14 + (at + m + k) ≡ 14 + (at + m) + k = omega arith in
      ap (number big_endian) (in_pdu (at + m + k) 4 both
      ∙ ap (λ (p : ℕ). part p 4 both) e
      ∙ part-within (14 + (at + m)) ys one k 4 fit1 (omega arith))

-- all that is known of it
pub record TwoReplied (own request : List ℕ) (op at m : ℕ) (xs ys f : List ℕ) : Type 0 where
  pub answered : Answers own request op f
  pub opcode : good_opcode f ≡ op
  pub behind : (k : ℕ) → 14 + (at + m) + m ≤ k → drop k f ≡ drop k request
  pub kept : (k : ℕ) → 4 + k + 4 ≤ at → word (4 + k) (pdu_of f) ≡ word (4 + k) (pdu_of request)
  pub first : (k : ℕ) → k + 4 ≤ m → word (at + k) (pdu_of f) ≡ word k xs
  pub second : (k : ℕ) → k + 4 ≤ m → word (at + m + k) (pdu_of f) ≡ word k ys

-- both opcodes have fixed parts of n octets, and the two values stand within
pub two_replied : (own request : List ℕ) (op at m n k : ℕ) (xs ys : List ℕ) → length own ≡ 6
    → length xs ≡ m → length ys ≡ m → 4 ≤ at → at + m + m ≤ 4 + n
    → Request request k n → (rule_of op).known ≡ true → (rule_of op).least ≡ n → ((code : ℕ) → code_good (rule_of op) code ≡ true)
    → TwoReplied own request op at m xs ys (laid (14 + (at + m)) ys (laid (14 + at) xs (reply_octets own op request)))
two_replied own request op at m n k xs ys o hx hy low within q known least free =
    let room : 14 + (at + m) + m ≤ length request = omega (arith, q.long) in
    let f = both own request op at m xs ys o hx hy low room in
    let head = head2 own request op at m xs ys o hx hy low room in
    let behind = tail own request op at m xs ys o hx hy low room in
    let fixed : (i : ℕ) → 18 + n ≤ i → drop i f ≡ drop i request = λ i h. behind i (omega arith) in
    record {
      answered = answers own request f op n q.good q.least head known least free fixed;
      opcode = opcode-told own request f op n q.good q.least head known least free fixed;
      behind = behind;
      kept = word_kept own request op at m xs ys o hx hy low room;
      first = word_first own request op at m xs ys o hx hy low room;
      second = word-second own request op at m xs ys o hx hy low room;
    }
