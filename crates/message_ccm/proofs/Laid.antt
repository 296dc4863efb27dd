-- A CCM laid over the buffer piece by piece, each right behind the one before it. Assumes nothing.
use Prim.Native.Nat.{ℕ, ◌≤◌}
use mathlib.Core.Path.{◌≡◌, refl, ◌∙◌}
use mathlib.Core.List.{List}
use native.Mathlib.Omega.{arith}
use lib.ListN.{length, length-append}
use Rattle.base_laws.specs.Lists.{laid}
use Rattle.base_numbers.specs.Numbers.{in_octets, big_endian}
use Rattle.base_numbers.proofs.Laws.{length-octets}
use Rattle.frame_multicast.specs.Multicast.{multicast_of}
use Rattle.base_bits.specs.Fields.{first_octet, ccm_flags, mep_id}
use Rattle.message_parts.specs.Messages.{count, after_destination}
use Rattle.base_laws.proofs.Pieces.{first, more}
use Rattle.message_parts.proofs.Laid.{count_long, after-long, zeros}
use Rattle.message_ccm.specs.declared.CcmValues.{CcmValues}
use Rattle.message_ccm.specs.Continuity.{ccm_fixed, ccm_octets, Lengths}

-- ── how long it is ──

fixed-long : (meg : List ℕ) (c : CcmValues) → length meg ≡ 48 → length (ccm_fixed meg c) ≡ 71
unfolding ccm_fixed
fixed-long meg c h = simp (length-append, length-octets) (omega arith)

pub ccm-long : (source meg : List ℕ) (c : CcmValues) → length source ≡ 6 → length meg ≡ 48 → length (ccm_octets source meg c) ≡ 89
unfolding ccm_octets
ccm-long source meg c hs hm =
    let a = after-long source (first_octet c.level 0) 1 (ccm_flags c.rdi c.period) 70 hs in
    let f = fixed-long meg c hm in
    simp length-append (omega arith)

pub lengths : Lengths
lengths = record { ccm = ccm-long }

-- ── piece by piece ──

pub fixed-laid : (meg : List ℕ) (c : CcmValues) (mep : ℕ) (l : List ℕ) {x y z u v w r : List ℕ} → length meg ≡ 48 → 89 ≤ length l
    → mep ≡ mep_id c.mep
    → x ≡ laid 18 (count c.sequence) l
    → y ≡ laid 22 (in_octets big_endian 2 mep) x
    → z ≡ laid 24 meg y
    → u ≡ laid 72 (count c.txfcf) z
    → v ≡ laid 76 (count c.rxfcb) u
    → w ≡ laid 80 (count c.txfcb) v
    → r ≡ laid 84 (in_octets big_endian 5 0) w
    → r ≡ laid 18 (ccm_fixed meg c) l
unfolding ccm_fixed
fixed-laid meg c mep l hm h em e1 e2 e3 e4 e5 e6 e7 =
    let p1 = first 18 4 (count c.sequence) l e1 (count_long c.sequence) in
    let p2 = more 2 (in_octets big_endian 2 mep) p1 e2 (length-octets big_endian 2 mep) (omega arith) in
    let p3 = more 48 meg p2 e3 hm (omega arith) in
    let p4 = more 4 (count c.txfcf) p3 e4 (count_long c.txfcf) (omega arith) in
    let p5 = more 4 (count c.rxfcb) p4 e5 (count_long c.rxfcb) (omega arith) in
    let p6 = more 4 (count c.txfcb) p5 e6 (count_long c.txfcb) (omega arith) in
    let p7 = more 5 (in_octets big_endian 5 0) p6 e7 (length-octets big_endian 5 0) (omega arith) in
    p7.is ∙ rw (em, zeros 5)

pub ccm-laid : (source meg : List ℕ) (c : CcmValues) (head flags : ℕ) (l : List ℕ) {x y r : List ℕ} → length source ≡ 6 → length meg ≡ 48
    → 89 ≤ length l
    → head ≡ first_octet c.level 0 → flags ≡ ccm_flags c.rdi c.period
    → x ≡ laid 0 (multicast_of c.level) l → y ≡ laid 6 (after_destination source head 1 flags 70) x → r ≡ laid 18 (ccm_fixed meg c) y
    → r ≡ laid 0 (ccm_octets source meg c) l
unfolding ccm_octets
ccm-laid source meg c head flags l hs hm h eh ef e1 e2 e3 =
    let p1 = first 0 6 (multicast_of c.level) l e1 refl in
    let p2 = more 12 (after_destination source head 1 flags 70) p1 e2 (after-long source head 1 flags 70 hs) (omega arith) in
    let p3 = more 71 (ccm_fixed meg c) p2 e3 (fixed-long meg c hm) (omega arith) in
    p3.is ∙ rw (eh, ef)
