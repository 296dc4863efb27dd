-- A frame that is sent: two addresses, 89-02, four octets, and a fixed part as long as its offset says with the End TLV right behind it. It
-- is good, holds no TLV, and says what it was given. Assumes nothing.
use Prim.Native.Nat.{ℕ, ◌+◌, ◌/◌, ◌%◌, ◌≤◌, ◌<◌}
use mathlib.Core.Path.{◌≡◌, refl, sym, ap, ap₂, ◌∙◌, subst}
use mathlib.Core.Bool.{Bool, true}
use mathlib.Core.List.{List, [], ◌∷◌, ◌++◌, append_assoc}
use native.Mathlib.Omega.{arith}
use lib.ListN.{length, get_or, length-append}
use lib.Seq.{get_or-append-add}
use Rattle.std.specs.Prelude.{false, Result, Ok}
use Rattle.frame_reader_answer.specs.declared.Bad.{Bad}
use Rattle.base_laws.specs.Lists.{part}
use Rattle.base_laws.proofs.Apart.{part-front}
use Rattle.base_laws.proofs.Parts.{part-behind, part-whole}
use Rattle.base_bits.specs.Fields.{first_octet}
use Rattle.base_numbers.specs.Numbers.{in_octets, octets_lowest_first, big_endian}
use Rattle.frame_opcodes.specs.Opcodes.{rule_of}
use Rattle.frame_tlvs.specs.declared.Place.{Place}
use Rattle.frame_tlvs.specs.declared.Place.TheVariants.{End}
use Rattle.frame_head.specs.Head.{destination_of, source_of, pdu_of, level_of, version_of, opcode_of, flags_of, offset_of, start_of}
use Rattle.frame_tlvs.specs.Tlvs.{walk_from, is_cut}
use Rattle.frame_seek.specs.Seek.{whole, in_frame}
use Rattle.frame_reader.specs.Reader.{answer_at, answer_of}
use Rattle.frame_seek.proofs.Chain.{through}
use Rattle.frame_tlvs.proofs.Steps.{ended}
use Rattle.frame_message.specs.Good.{Headed, Good}
use Rattle.frame_message.specs.Message.{period_code, code_good, judged_of, unless_bad, message_of}
use Rattle.frame_message.specs.Told.{good_opcode}
use Rattle.frame_message.proofs.GoodTests.{last_word}
use Rattle.frame_message.proofs.Numbers.{opcode}
use Rattle.frame_message.proofs.Shape.{framed, pdu-is, ether-is, headed}
use Rattle.message_parts.specs.Messages.{after_destination}
use Rattle.message_readback.specs.Heads.{Says}

-- ── two addresses before 89-02 ──

module _ (destination source pdu : List ℕ) (d : length destination ≡ 6) (s : length source ≡ 6) where
  pub both : length (destination ++ source) ≡ 12
  both = rw length-append (omega arith)

  pub to : destination_of (framed (destination ++ source) pdu) ≡ destination
  to =
      part-front 0 6 (destination ++ source) (0x89 ∷ 0x02 ∷ pdu) (omega (arith, both))
      ∙ part-front 0 6 destination source (omega arith)
      ∙ part-whole 6 destination d

  pub from : source_of (framed (destination ++ source) pdu) ≡ source
  from =
      part-front 6 6 (destination ++ source) (0x89 ∷ 0x02 ∷ pdu) (omega (arith, both))
      ∙ ap (λ (n : ℕ). part (n + 0) 6 (destination ++ source)) (sym d)
      ∙ part-behind destination source 0 6
      ∙ part-whole 6 source s

-- 89-02 as a number is written so
oam : in_octets big_endian 2 0x8902 ≡ 0x89 ∷ 0x02 ∷ []
unfolding in_octets octets_lowest_first
oam = refl

-- a message as it is laid out is such a frame
shape : (d s rest : List ℕ) (first op flags offset : ℕ)
    → d ++ after_destination s first op flags offset ++ rest ≡ framed (d ++ s) (first ∷ op ∷ flags ∷ offset ∷ rest)
unfolding after_destination
shape d s rest first op flags offset = rw oam (simp append_assoc)

-- ── what it reads as ──

-- an opcode of the table, a fixed part as long as the offset says, the End TLV behind it, and a good period code
pub record Made (destination source rest : List ℕ) (op flags offset : ℕ) : Type 0 where
  pub d : length destination ≡ 6
  pub s : length source ≡ 6
  pub k : (rule_of op).known ≡ true
  pub o : (rule_of op).least ≤ offset
  pub l : length rest ≡ offset + 1
  pub z : get_or rest offset 0 ≡ 0
  pub m : offset ≤ 1495
  pub g : code_good (rule_of op) (period_code flags) ≡ true

module _ (destination source rest : List ℕ) (first op flags offset : ℕ) (w : Made destination source rest op flags offset) where
  abbrev pdu : List ℕ
  pdu = first ∷ op ∷ flags ∷ offset ∷ rest

  abbrev f : List ℕ
  f = framed (destination ++ source) pdu

  is : pdu_of f ≡ pdu
  is = pdu-is (destination ++ source) pdu (both destination source pdu w.d w.s)

  fine : Headed f
  fine =
      headed (destination ++ source) rest first op flags offset (both destination source pdu w.d w.s) w.k w.o
      (omega (arith, w.l, w.m))

  -- the walk ends where it begins, whatever is asked for
  walked : (kind : ℕ) → walk_from kind (start_of (pdu_of f)) (pdu_of f) ≡ End (4 + offset)
  walked kind =
      ap (λ (p : List ℕ). walk_from kind (4 + offset_of p) p) is
      ∙ ended kind (4 + offset) pdu (omega (arith, w.l)) (get_or-append-add (first ∷ op ∷ flags ∷ offset ∷ []) rest offset 0 ∙ w.z)

  good : Good f
  good = record { headed = fine; ends = ap is_cut (walked 0) }

  bare : (kind : ℕ) → answer_of f kind ≡ Ok false
  unfolding answer_of
  bare kind =
      through answer_at f kind
      ∙ last_word _ f _ fine
      ∙ ap₂ (λ (x y : Place). answer_at (in_frame (whole x y))) (walked 0) (walked kind)

  opcode-is : good_opcode f ≡ op
  opcode-is = opcode f good (ap (λ (p : List ℕ). code_good (rule_of (opcode_of p)) (period_code (flags_of p))) is ∙ w.g) ∙ ap opcode_of is

  message-is : message_of f ≡ Ok op
  unfolding message_of judged_of
  message-is =
      ap₂ (λ (a : Result Bool Bad) (p : List ℕ). unless_bad a (judged_of (opcode_of p) (flags_of p))) (bare 0) is
      ∙ rw w.g

  says : (level version : ℕ) → first / 32 ≡ level → first % 32 ≡ version → Says f destination source level version op flags offset
  says level version a b = record {
    to = to destination source pdu w.d w.s;
    from = from destination source pdu w.d w.s;
    oam = ether-is (destination ++ source) pdu (both destination source pdu w.d w.s);
    at_level = ap level_of is ∙ a;
    of_version = ap version_of is ∙ b;
    with_opcode = ap opcode_of is;
    with_flags = ap flags_of is;
    with_offset = ap offset_of is;
  }

-- all that a message says once it is read
pub record Read (destination source : List ℕ) (level version first op flags offset : ℕ) (rest f : List ℕ) : Type 0 where
  pub head : Says f destination source level version op flags offset
  pub message : message_of f ≡ Ok op
  pub opcode : good_opcode f ≡ op
  pub pdu : pdu_of f ≡ first ∷ op ∷ flags ∷ offset ∷ rest
  pub bare : (kind : ℕ) → answer_of f kind ≡ Ok false

module _ (destination source rest : List ℕ) (level version op flags offset : ℕ) (v : level < 8) (n : version < 32) where
  pub sent_reads : Made destination source rest op flags offset
      → Read destination source level version (first_octet level version) op flags offset rest
      (destination ++ after_destination source (first_octet level version) op flags offset ++ rest)
  sent_reads w =
      let first = first_octet level version in
      let e = shape destination source rest first op flags offset in
      subst (Read destination source level version first op flags offset rest) (sym e) (record {
        head = says destination source rest first op flags offset w level version (omega arith) (omega arith);
        message = message-is destination source rest first op flags offset w;
        opcode = opcode-is destination source rest first op flags offset w;
        pdu = is destination source rest first op flags offset w;
        bare = bare destination source rest first op flags offset w;
      })
