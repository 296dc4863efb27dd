-- A CCM that is sent reads back: its part of specs/Sent.antt. Assumes nothing.
use Prim.Native.Nat.{ℕ, ◌+◌, ◌/◌}
use mathlib.Core.Path.{◌≡◌, refl, sym, ap, ap₂, ◌∙◌}
use mathlib.Core.Bool.{not, cond}
use mathlib.Core.List.{List, [], ◌∷◌, ◌++◌, append_assoc}
use native.Mathlib.Omega.{arith}
use lib.Dec.{eqb}
use lib.ListN.{length, get_or, replicate, length-append}
use lib.Seq.{get_or-append-add}
use borrow.Author.Tests.{ne_eqb}
use Rattle.base_laws.specs.Tests.{choose}
use Rattle.base_laws.specs.Lists.{part}
use Rattle.base_laws.proofs.Parts.{part_among}
use Rattle.base_bits.specs.Fields.{first_octet, ccm_flags, mep_id}
use Rattle.base_numbers.specs.Numbers.{number, in_octets, big_endian}
use Rattle.base_numbers.proofs.Laws.{length-octets, number-back}
use Rattle.frame_opcodes.specs.Opcodes.{rule_of}
use Rattle.frame_head.specs.Head.{flags_of, word}
use Rattle.frame_message.specs.Message.{period_code}
use Rattle.frame_ccm.specs.Ccm.{ccm_in, no_ccm, ccm_of, meg_in, meg_of}
use Rattle.frame_multicast.specs.Multicast.{multicast_of}
use Rattle.message_ccm.specs.declared.CcmValues.{CcmValues}
use Rattle.message_parts.specs.Messages.{count}
use Rattle.message_ccm.specs.Continuity.{ccm_fixed, ccm_octets}
use Rattle.message_parts.proofs.Laid.{count_long}
use Rattle.message_readback.specs.Sent.{CcmGiven, CcmBack}
use Rattle.message_readback.proofs.WordsRead.{behind_four, counted}
use Rattle.message_readback.proofs.Framed.{Made, sent_reads}

ccm-in : (p : List ℕ) {a b c d e f g : ℕ} → word 4 p ≡ a → mep_id (number big_endian (part 8 2 p)) ≡ b → word 58 p ≡ c → word 62 p ≡ d
    → word 66 p ≡ e
    → period_code (flags_of p) ≡ f → flags_of p / 128 ≡ g
    → ccm_in p ≡ record { sequence = a; mep = b; txfcf = c; rxfcb = d; txfcb = e; period = f; rdi = g }
ccm-in p h i j k l m n = cc

-- a CCM's fixed part, field by field, and where its end stands
record Placed (q i g a b c z all : List ℕ) : Type 0 where
  sequence : part 0 4 all ≡ q
  mep : part 4 2 all ≡ i
  meg : part 6 48 all ≡ g
  txfcf : part 54 4 all ≡ a
  rxfcb : part 58 4 all ≡ b
  txfcb : part 62 4 all ≡ c
  end : (n : ℕ) → get_or all (66 + n) 0 ≡ get_or z n 0
  long : length all ≡ 66 + length z

-- each stands where those before it end
module _ (q i g a b c z : List ℕ) (hq : length q ≡ 4) (hi : length i ≡ 2) (hg : length g ≡ 48) (ha : length a ≡ 4) (hb : length b ≡ 4)
    (hc : length c ≡ 4) where
  abbrev all : List ℕ
  all = q ++ i ++ g ++ a ++ b ++ c ++ z

  six : length (q ++ i ++ g ++ a ++ b ++ c) ≡ 66
  six = simp length-append (omega arith)

  placed : Placed q i g a b c z all
  placed = record {
    sequence = part_among [] q (i ++ g ++ a ++ b ++ c ++ z) 0 4 (simp append_assoc) refl hq;
    mep = part_among q i (g ++ a ++ b ++ c ++ z) 4 2 (simp append_assoc) hq hi;
    meg = part_among (q ++ i) g (a ++ b ++ c ++ z) 6 48 (simp append_assoc) (simp length-append (omega arith)) hg;
    txfcf = part_among (q ++ i ++ g) a (b ++ c ++ z) 54 4 (simp append_assoc) (simp length-append (omega arith)) ha;
    rxfcb = part_among (q ++ i ++ g ++ a) b (c ++ z) 58 4 (simp append_assoc) (simp length-append (omega arith)) hb;
    txfcb = part_among (q ++ i ++ g ++ a ++ b) c z 62 4 refl (simp length-append (omega arith)) hc;
    end = λ n. ap (λ (k : ℕ). get_or all (k + n) 0) (sym six) ∙ get_or-append-add (q ++ i ++ g ++ a ++ b ++ c) z n 0;
    long = length-append (q ++ i ++ g ++ a ++ b ++ c) z ∙ omega (arith, six);
  }

module _ (source meg : List ℕ) (c : CcmValues) (w : CcmGiven source meg c) where
  abbrev flags : ℕ
  flags = ccm_flags c.rdi c.period

  abbrev first : ℕ
  first = first_octet c.level 0

  abbrev mep : List ℕ
  mep = in_octets big_endian 2 (mep_id c.mep)

  abbrev rest : List ℕ
  rest = count c.sequence ++ mep ++ meg ++ count c.txfcf ++ count c.rxfcb ++ count c.txfcb ++ replicate 5 0

  abbrev pdu : List ℕ
  pdu = first ∷ 1 ∷ flags ∷ 70 ∷ rest

  fields : Placed (count c.sequence) mep meg (count c.txfcf) (count c.rxfcb) (count c.txfcb) (replicate 5 0) rest
  fields =
      placed (count c.sequence) mep meg (count c.txfcf) (count c.rxfcb) (count c.txfcb) (replicate 5 0)
      (count_long c.sequence) (length-octets big_endian 2 (mep_id c.mep)) w.named (count_long c.txfcf) (count_long c.rxfcb)
      (count_long c.txfcb)

  code : period_code flags ≡ c.period
  code = omega (arith, w.period)

  ccm_made : Made (multicast_of c.level) source rest 1 flags 70
  unfolding rule_of choose
  ccm_made = record {
    d = refl;
    s = w.sourced;
    k = refl;
    o = omega arith;
    l = fields.long;
    z = fields.end 4;
    m = omega arith;
    g = ap not (ne_eqb (period_code flags) 0 (λ e. omega (arith, code, w.some)));
  }

  ccm-fields : ccm_in pdu ≡ record {
    sequence = c.sequence;
    mep = c.mep;
    txfcf = c.txfcf;
    rxfcb = c.rxfcb;
    txfcb = c.txfcb;
    period = c.period;
    rdi = c.rdi;
  }
  ccm-fields =
      let at : (k n : ℕ) → part (4 + k) n pdu ≡ part k n rest = behind_four first 1 flags 70 rest in
      let low : mep_id c.mep ≡ c.mep = omega (arith, w.mep) in
      ccm-in pdu
      (ap (number big_endian) (at 0 4 ∙ fields.sequence) ∙ counted c.sequence w.sequence)
      (ap (λ (xs : List ℕ). mep_id (number big_endian xs)) (at 4 2 ∙ fields.mep)
      ∙ ap mep_id (number-back big_endian 2 (mep_id c.mep) (omega arith) ∙ low) ∙ low)
      (ap (number big_endian) (at 54 4 ∙ fields.txfcf) ∙ counted c.txfcf w.txfcf)
      (ap (number big_endian) (at 58 4 ∙ fields.rxfcb) ∙ counted c.rxfcb w.rxfcb)
      (ap (number big_endian) (at 62 4 ∙ fields.txfcb) ∙ counted c.txfcb w.txfcb)
      code
      (omega (arith, w.rdi))

  pub ccm : CcmBack source meg c (ccm_octets source meg c)
  unfolding ccm_octets ccm_fixed ccm_of meg_of rule_of choose
  ccm =
      let r = sent_reads (multicast_of c.level) source rest c.level 0 1 flags 70 w.level (omega arith) ccm_made in
      record {
        head = r.head;
        message = r.message;
        fields = ap₂ (λ (o : ℕ) (x : List ℕ). cond (eqb o 1) (ccm_in x) no_ccm) r.opcode r.pdu ∙ ccm-fields;
        name =
            ap₂ (λ (o : ℕ) (x : List ℕ). cond (eqb o 1) (meg_in x) []) r.opcode r.pdu
            ∙ behind_four first 1 flags 70 rest 6 48
            ∙ fields.meg;
        bare = r.bare;
      }
