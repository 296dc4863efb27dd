-- What is sent reads back: the statement of specs/Sent.antt, and the LMM and DMM of it. Assumes nothing.
use Prim.Native.Nat.{ℕ, ◌+◌, ◌≤◌, ◌<◌}
use mathlib.Core.Path.{◌≡◌, refl, sym, ap, ap₂, ◌∙◌}
use mathlib.Core.Bool.{true, ◌||◌, cond}
use mathlib.Core.List.{List, ◌∷◌, ◌++◌, append_assoc}
use native.Mathlib.Omega.{arith}
use lib.Dec.{eqb}
use lib.ListN.{length, get_or, replicate, length-append, length-replicate, get_or-replicate}
use lib.Seq.{get_or-append-add}
use Rattle.base_laws.specs.Tests.{choose}
use Rattle.base_laws.specs.Lists.{part}
use Rattle.base_laws.proofs.Apart.{part-front}
use Rattle.base_bits.specs.Fields.{first_octet}
use Rattle.base_numbers.specs.Numbers.{number, number_lowest_first, big_endian}
use Rattle.base_stamp.specs.declared.Stamp.{Stamp}
use Rattle.base_stamp.specs.Stamps.{Wire}
use Rattle.frame_opcodes.specs.Opcodes.{rule_of}
use Rattle.frame_head.specs.Head.{word}
use Rattle.frame_message.specs.Message.{code_good}
use Rattle.frame_measures.specs.Measures.{loss_in, no_loss, loss_of, delay_in, no_delay, delay_of}
use Rattle.message_parts.specs.Messages.{count, stamp_octets, after_destination}
use Rattle.message_requests.specs.Requests.{lmm_octets, dmm_octets}
use Rattle.message_parts.proofs.Laid.{count_long, stamp-long}
use Rattle.message_readback.specs.Heads.{Word}
use Rattle.message_readback.specs.Sent.{LmmBack, DmmBack, SentBack}
use Rattle.message_readback.proofs.WordsRead.{behind_four, behind, count_word, seconds-word, nanoseconds-word, loss-in, delay-in}
use Rattle.message_readback.proofs.CcmSent.{ccm}
use Rattle.message_readback.proofs.Framed.{Read, sent_reads}

-- ── any request: n octets of a value, then zeros, the last of them the End TLV ──

module _ (destination source : List ℕ) (level op : ℕ) (value : List ℕ) (n k : ℕ) (hv : length value ≡ n) where
  abbrev rest : List ℕ
  rest = value ++ replicate (k + 1) 0

  abbrev pdu : List ℕ
  pdu = first_octet level 1 ∷ op ∷ 0 ∷ (n + k) ∷ rest

  -- a word of the value, and one of the zeros behind it
  value-word : (at : ℕ) → at + 4 ≤ n → word (4 + at) pdu ≡ word at value
  value-word at h =
      ap (number big_endian) (behind_four (first_octet level 1) op 0 (n + k) rest at 4
      ∙ part-front at 4 value (replicate (k + 1) 0) (omega arith))

  zero_word : (at : ℕ) → word (4 + (n + at)) pdu ≡ word at (replicate (k + 1) 0)
  zero_word at =
      ap (number big_endian) (behind_four (first_octet level 1) op 0 (n + k) rest (n + at) 4 ∙ behind value (replicate (k + 1) 0) n at 4 hv)

  request_reads : length destination ≡ 6 → length source ≡ 6 → level < 8
      → (rule_of op).known ≡ true → (rule_of op).least ≤ n + k → code_good (rule_of op) 0 ≡ true → n + k ≤ 1495
      → Read destination source level 1 (first_octet level 1) op 0 (n + k) rest
      (destination ++ after_destination source (first_octet level 1) op 0 (n + k) ++ value ++ replicate (k + 1) 0)
  request_reads d s v known least code few =
      rw (append_assoc (destination ++ after_destination source (first_octet level 1) op 0 (n + k)) value (replicate (k + 1) 0))
      (sent_reads destination source rest level 1 op 0 (n + k) v (omega arith) (record {
        d = d;
        s = s;
        k = known;
        o = least;
        l = length-append value (replicate (k + 1) 0) ∙ omega (arith, length-replicate {A = ℕ} (k + 1) 0);
        z =
            ap (λ (m : ℕ). get_or rest (m + k) 0) (sym hv)
            ∙ get_or-append-add value (replicate (k + 1) 0) k 0
            ∙ get_or-replicate (k + 1) k 0 0 (omega arith);
        m = few;
        g = code;
      }))

lmm : (destination source : List ℕ) (level sent : ℕ) → length destination ≡ 6 → length source ≡ 6 → level < 8 → Word sent
    → LmmBack destination source level sent (lmm_octets destination source level sent)
unfolding lmm_octets loss_of rule_of choose part number number_lowest_first
lmm destination source level sent d s v w =
    let r = request_reads destination source level 43 (count sent) 4 8 (count_long sent) d s v refl (omega arith) refl (omega arith) in
    let zeros = zero_word destination source level 43 (count sent) 4 8 (count_long sent) in
    record {
      head = r.head;
      message = r.message;
      fields =
          ap₂ (λ (o : ℕ) (p : List ℕ). cond (eqb o 43 || eqb o 42) (loss_in p) no_loss) r.opcode r.pdu
          ∙ loss-in (pdu destination source level 43 (count sent) 4 8 (count_long sent))
          (value-word destination source level 43 (count sent) 4 8 (count_long sent) 0 (omega arith) ∙ count_word sent w)
          (zeros 0) (zeros 4);
      bare = r.bare;
    }

dmm : (destination source : List ℕ) (level : ℕ) (t : Stamp) → length destination ≡ 6 → length source ≡ 6 → level < 8 → Wire t
    → DmmBack destination source level t (dmm_octets destination source level t)
unfolding dmm_octets delay_of rule_of choose part number number_lowest_first
dmm destination source level t d s v w =
    let r = request_reads destination source level 47 (stamp_octets t) 8 24 (stamp-long t) d s v refl (omega arith) refl (omega arith) in
    let word_of = value-word destination source level 47 (stamp_octets t) 8 24 (stamp-long t) in
    let zeros = zero_word destination source level 47 (stamp_octets t) 8 24 (stamp-long t) in
    record {
      head = r.head;
      message = r.message;
      fields =
          ap₂ (λ (o : ℕ) (p : List ℕ). cond (eqb o 47 || eqb o 46) (delay_in p) no_delay) r.opcode r.pdu
          ∙ delay-in (pdu destination source level 47 (stamp_octets t) 8 24 (stamp-long t))
          (word_of 0 (omega arith) ∙ seconds-word t w) (word_of 4 (omega arith) ∙ nanoseconds-word t w)
          (zeros 0) (zeros 4) (zeros 8) (zeros 12);
      bare = r.bare;
    }

pub sent_back : SentBack
sent_back = record { ccm = ccm; lmm = lmm; dmm = dmm }
