-- A frame that keeps of a request what a reply keeps reads back as the message that answers it. Assumes nothing.
use Prim.Native.Nat.{ℕ, ◌+◌, ◌/◌, ◌%◌, ◌≤◌}
use mathlib.Core.Path.{◌≡◌, sym, ap, ◌∙◌}
use mathlib.Core.Bool.{true, false}
use mathlib.Core.List.{List}
use native.Mathlib.Omega.{arith}
use lib.ListN.{get_or, drop, length-drop}
use lib.Seq.{drop-drop, get_or-drop}
use Rattle.base_numbers.specs.Numbers.{number, big_endian}
use Rattle.frame_opcodes.specs.Opcodes.{rule_of}
use Rattle.frame_head.specs.Head.{ether_type_of, pdu_of, opcode_of, flags_of, offset_of}
use Rattle.frame_reader.specs.Reader.{answer_of}
use Rattle.frame_message.specs.Good.{Headed, Good, is_bad, tlvs_of}
use Rattle.frame_message.specs.Message.{period_code, code_good, judged_of, message_of}
use Rattle.frame_message.specs.Told.{good_opcode}
use Rattle.frame_message.proofs.GoodTests.{unless_good}
use Rattle.frame_message.proofs.Goods.{good_frames}
use Rattle.frame_message.proofs.Numbers.{opcode}
use Rattle.message_readback.specs.Replies.{Answers}
use Rattle.message_readback.proofs.Kept.{Head}

-- the frame f answers the request with opcode op; both opcodes have fixed parts of n octets, behind which f is as the request
module _ (own request f : List ℕ) (op n : ℕ) (g : Good request) (asked : (rule_of (opcode_of (pdu_of request))).least ≡ n)
    (w : Head own request op f)
    (k : (rule_of op).known ≡ true) (same : (rule_of op).least ≡ n) (free : (code : ℕ) → code_good (rule_of op) code ≡ true)
    (tail : (at : ℕ) → 18 + n ≤ at → drop at f ≡ drop at request) where
  octet : (i : ℕ) → get_or f (14 + i) 0 ≡ get_or request (14 + i) 0 → get_or (pdu_of f) i 0 ≡ get_or (pdu_of request) i 0
  octet i e = get_or-drop 14 f i 0 ∙ e ∙ sym (get_or-drop 14 request i 0)

  opcode-is : opcode_of (pdu_of f) ≡ op
  opcode-is = get_or-drop 14 f 1 0 ∙ w.code

  flags-is : flags_of (pdu_of f) ≡ flags_of (pdu_of request)
  flags-is = octet 2 w.flags

  offset-is : offset_of (pdu_of f) ≡ offset_of (pdu_of request)
  offset-is = octet 3 w.offset

  ether-is : ether_type_of f ≡ 0x8902
  ether-is = ap (number big_endian) w.oam ∙ g.headed.oam

  fine : Headed f
  fine = record {
    shortest = omega (arith, w.long, g.headed.shortest);
    longest = omega (arith, w.long, g.headed.longest);
    oam = ether-is;
    head = omega (arith, length-drop 14 f, length-drop 14 request, w.long, g.headed.head);
    opcode = ap (λ (o : ℕ). (rule_of o).known) opcode-is ∙ k;
    offset = omega (arith, ap (λ (o : ℕ). (rule_of o).least) opcode-is, same, asked, offset-is, g.headed.offset);
  }

  tlvs-is : tlvs_of f ≡ tlvs_of request
  tlvs-is =
      let at = 4 + offset_of (pdu_of request) in
      let far : 18 + n ≤ 14 + at = omega (arith, asked, g.headed.offset) in
      ap (λ (o : ℕ). drop (4 + o) (pdu_of f)) offset-is
      ∙ drop-drop at 14 f
      ∙ tail (14 + at) far
      ∙ sym (drop-drop at 14 request)

  answered : (kind : ℕ) → answer_of f kind ≡ answer_of request kind
  answered = good_frames.answers f request fine g.headed tlvs-is

  read : is_bad (answer_of f 0) ≡ false
  read = ap is_bad (answered 0) ∙ (good_frames.read request 0).1 g

  pub opcode-told : good_opcode f ≡ op
  opcode-told =
      opcode f ((good_frames.read f 0).0 read)
      (ap (λ (o : ℕ). code_good (rule_of o) (period_code (flags_of (pdu_of f)))) opcode-is ∙ free (period_code (flags_of (pdu_of f))))
      ∙ opcode-is

  pub answers : Answers own request op f
  unfolding message_of judged_of
  answers = record {
    long = w.long;
    head = record {
      to = w.to;
      from = w.from;
      oam = ether-is;
      at_level = ap (λ (x : ℕ). x / 32) (octet 0 w.first);
      of_version = ap (λ (x : ℕ). x % 32) (octet 0 w.first);
      with_opcode = opcode-is;
      with_flags = flags-is;
      with_offset = offset-is;
    };
    message =
        unless_good (answer_of f 0) (judged_of (opcode_of (pdu_of f)) (flags_of (pdu_of f))) read
        ∙ ap (λ (o : ℕ). judged_of o (flags_of (pdu_of f))) opcode-is
        ∙ rw (free (period_code (flags_of (pdu_of f))));
    tlvs = tlvs-is;
    answers = answered;
    values = good_frames.values f request fine g.headed tlvs-is;
  }
