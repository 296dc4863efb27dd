-- Words of a PDU, each read where it was written: behind the four octets of the PDU, behind a value, and of a count or a stamp itself.
-- Assumes nothing.
use Prim.Native.Nat.{ℕ, ◌+◌}
use mathlib.Core.Path.{◌≡◌, refl, sym, ap, ◌∙◌}
use mathlib.Core.List.{List, [], ◌∷◌, ◌++◌, append-nil}
use native.Mathlib.Omega.{arith}
use lib.ListN.{length, drop}
use Rattle.base_laws.specs.Lists.{part}
use Rattle.base_laws.proofs.Parts.{part-drop, part-behind, part_among, part-whole}
use Rattle.base_numbers.specs.Numbers.{number, big_endian}
use Rattle.base_numbers.proofs.Laws.{number-back}
use Rattle.base_stamp.specs.declared.Stamp.{Stamp}
use Rattle.base_stamp.specs.Stamps.{Wire}
use Rattle.frame_head.specs.Head.{pdu_of, word}
use Rattle.frame_measures.specs.Measures.{loss_in, delay_in}
use Rattle.message_parts.specs.Messages.{count, stamp_octets}
use Rattle.message_parts.proofs.Laid.{count_long}
use Rattle.message_readback.specs.Heads.{Word}

-- ── where they stand ──

-- what stands behind the four octets of a PDU
pub behind_four : (a b c d : ℕ) (rest : List ℕ) (at n : ℕ) → part (4 + at) n (a ∷ b ∷ c ∷ d ∷ rest) ≡ part at n rest
behind_four a b c d rest at n = part-behind (a ∷ b ∷ c ∷ d ∷ []) rest at n

-- what stands behind x
pub behind : (x q : List ℕ) (n at m : ℕ) → length x ≡ n → part (n + at) m (x ++ q) ≡ part at m q
behind x q n at m e = ap (λ (k : ℕ). part (k + at) m (x ++ q)) (sym e) ∙ part-behind x q at m

-- a part behind a place where two frames go on alike
pub alike : (at k n : ℕ) (f g : List ℕ) → drop at f ≡ drop at g → part (at + k) n f ≡ part (at + k) n g
alike at k n f g e = sym (part-drop at k n f) ∙ ap (part k n) e ∙ part-drop at k n g

-- a part of the PDU by its place in the frame
pub in_pdu : (at n : ℕ) (f : List ℕ) → part at n (pdu_of f) ≡ part (14 + at) n f
in_pdu at n f = part-drop 14 at n f

-- ── what they say ──

-- a count comes back
pub counted : (v : ℕ) → Word v → number big_endian (count v) ≡ v
counted v h = number-back big_endian 4 v (omega arith)

pub count_word : (v : ℕ) → Word v → word 0 (count v) ≡ v
count_word v h = ap (number big_endian) (part-whole 4 (count v) (count_long v)) ∙ counted v h

-- and so do the two halves of a stamp
module _ (t : Stamp) (w : Wire t) where
  pub seconds-word : word 0 (stamp_octets t) ≡ t.seconds
  seconds-word =
      ap (number big_endian) (part_among [] (count t.seconds) (count t.nanoseconds) 0 4 refl refl (count_long t.seconds))
      ∙ counted t.seconds w.seconds

  pub nanoseconds-word : word 4 (stamp_octets t) ≡ t.nanoseconds
  nanoseconds-word =
      let e = sym (append-nil (stamp_octets t)) in
      ap (number big_endian)
      (part_among (count t.seconds) (count t.nanoseconds) [] 4 4 e (count_long t.seconds) (count_long t.nanoseconds))
      ∙ counted t.nanoseconds w.nanoseconds

-- ── fields made of them ──

pub loss-in : (p : List ℕ) {x y z : ℕ} → word 4 p ≡ x → word 8 p ≡ y → word 12 p ≡ z → loss_in p ≡ record { txfcf = x; rxfcf = y; txfcb = z }
loss-in p e f g = cc

pub delay-in : (p : List ℕ) {a b c d e f : ℕ} → word 4 p ≡ a → word 8 p ≡ b → word 12 p ≡ c → word 16 p ≡ d → word 20 p ≡ e → word 24 p ≡ f
    → delay_in p ≡ record {
      txtimestampf = record { seconds = a; nanoseconds = b };
      rxtimestampf = record { seconds = c; nanoseconds = d };
      txtimestampb = record { seconds = e; nanoseconds = f };
    }
delay-in p h i j k l m = cc
