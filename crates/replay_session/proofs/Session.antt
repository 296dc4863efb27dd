-- The statement of specs/Session.antt, and the fields laid behind one another. Assumes nothing.
use Prim.Native.Nat.{ℕ, ◌+◌, ◌≤◌}
use mathlib.Core.Path.{◌≡◌, refl, sym, ap, ◌∙◌}
use mathlib.Core.List.{List, [], ◌++◌, append_assoc, append-nil}
use native.Mathlib.Omega.{arith}
use lib.IntN.{ℤ}
use lib.ListN.{length, length-append}
use mir.Syntax.{w64}
use mir.Val.{SFits, to_z, of_z}
use Rattle.base_laws.specs.Lists.{part, laid}
use Rattle.base_laws.proofs.Parts.{part_among, part-next, part-whole}
use Rattle.base_laws.proofs.Apart.{laid-whole}
use Rattle.base_laws.proofs.Pieces.{first, more}
use Rattle.base_octets.specs.Octets.{Octets}
use Rattle.base_numbers.specs.Numbers.{little_endian, number}
use Rattle.base_numbers.proofs.Laws.{length-octets, number_among, read_again}
use Rattle.base_signed.proofs.Laws.{signed-octets, signed_again}
use Rattle.loss_session.specs.declared.LossSession.{LossSession}
use Rattle.replay_session.specs.Session.{field, field_at, signed, signed_at, session_octets, session_at, FieldsHold, SessionsInOctets}

pub session-long : (s : LossSession) → length (session_octets s) ≡ 37
unfolding session_octets
session-long s = simp (length-append, length-octets)

-- ── octets from their session ──

-- each field spelled again is the part that it was read from, and the parts side by side are all the octets
pub again : (octets : List ℕ) → length octets ≡ 37 → Octets octets → session_octets (session_at octets) ≡ octets
unfolding session_octets
again octets l h =
    let number-again : (k at : ℕ) → at + k ≤ 37 → field k (field_at at k octets) ≡ part at k octets =
    λ k at fits. read_again little_endian k at octets (omega arith) h in
    let p1 = part-next octets 0 1 4 (number-again 1 0 (omega arith)) (number-again 4 1 (omega arith)) in
    let p2 = part-next octets 0 5 4 p1 (number-again 4 5 (omega arith)) in
    let p3 = part-next octets 0 9 4 p2 (number-again 4 9 (omega arith)) in
    let p4 = part-next octets 0 13 4 p3 (number-again 4 13 (omega arith)) in
    let p5 = part-next octets 0 17 8 p4 (signed_again 17 octets (omega arith) h) in
    let p6 = part-next octets 0 25 8 p5 (signed_again 25 octets (omega arith) h) in
    part-next octets 0 33 4 p6 (number-again 4 33 (omega arith)) ∙ part-whole 37 octets l

-- ── the fields laid ──

pub session-laid : (s : LossSession) (l : List ℕ) {a b c d e f g r : List ℕ} {near far : ℤ} → length l ≡ 37
    → a ≡ laid 0 (field 1 s.kept) l
    → b ≡ laid 1 (field 4 s.last.txf) a
    → c ≡ laid 5 (field 4 s.last.rxf) b
    → d ≡ laid 9 (field 4 s.last.txb) c
    → e ≡ laid 13 (field 4 s.last.ours) d
    → near ≡ s.near
    → f ≡ laid 17 (signed near) e
    → far ≡ s.far
    → g ≡ laid 25 (signed far) f
    → r ≡ laid 33 (field 4 s.intervals) g
    → r ≡ session_octets s
unfolding session_octets
session-laid s l k e1 e2 e3 e4 e5 is-near e6 is-far e7 e8 =
    let p1 = first 0 1 (field 1 s.kept) l e1 (length-octets little_endian 1 s.kept) in
    let p2 = more 4 (field 4 s.last.txf) p1 e2 (length-octets little_endian 4 s.last.txf) (omega arith) in
    let p3 = more 4 (field 4 s.last.rxf) p2 e3 (length-octets little_endian 4 s.last.rxf) (omega arith) in
    let p4 = more 4 (field 4 s.last.txb) p3 e4 (length-octets little_endian 4 s.last.txb) (omega arith) in
    let p5 = more 4 (field 4 s.last.ours) p4 e5 (length-octets little_endian 4 s.last.ours) (omega arith) in
    let p6 = more 8 (signed s.near) p5 (rw is-near at e6) (length-octets little_endian 8 (of_z w64 s.near)) (omega arith) in
    let p7 = more 8 (signed s.far) p6 (rw is-far at e7) (length-octets little_endian 8 (of_z w64 s.far)) (omega arith) in
    let p8 = more 4 (field 4 s.intervals) p7 e8 (length-octets little_endian 4 s.intervals) (omega arith) in
    p8.is ∙ laid-whole l (session_octets s) 37 k p8.long

-- ── a session from its octets ──

module _ (s : LossSession) where
  abbrev kept : List ℕ
  kept = field 1 s.kept

  abbrev txf : List ℕ
  txf = field 4 s.last.txf

  abbrev rxf : List ℕ
  rxf = field 4 s.last.rxf

  abbrev txb : List ℕ
  txb = field 4 s.last.txb

  abbrev ours : List ℕ
  ours = field 4 s.last.ours

  abbrev near : List ℕ
  near = signed s.near

  abbrev far : List ℕ
  far = signed s.far

  abbrev intervals : List ℕ
  intervals = field 4 s.intervals

  signed-there : (p q : List ℕ) (at : ℕ) (v : ℤ) → session_octets s ≡ p ++ signed v ++ q → length p ≡ at → SFits w64 v
      → signed_at at (session_octets s) ≡ v
  signed-there p q at v e hp fits =
      ap (λ (m : List ℕ). to_z w64 (number little_endian m)) (part_among p (signed v) q at 8 e hp (length-octets little_endian 8 (of_z w64 v)))
      ∙ signed-octets v fits

  module _ (h : FieldsHold s) where
    kept_here : field_at 0 1 (session_octets s) ≡ s.kept
    unfolding session_octets
    kept_here =
        number_among little_endian 1 s.kept [] (txf ++ rxf ++ txb ++ ours ++ near ++ far ++ intervals) 0 (simp append_assoc) refl
        h.kept

    txf-here : field_at 1 4 (session_octets s) ≡ s.last.txf
    unfolding session_octets
    txf-here =
        number_among little_endian 4 s.last.txf kept (rxf ++ txb ++ ours ++ near ++ far ++ intervals) 1 (simp append_assoc)
        (simp length-octets) h.txf

    rxf-here : field_at 5 4 (session_octets s) ≡ s.last.rxf
    unfolding session_octets
    rxf-here =
        number_among little_endian 4 s.last.rxf (kept ++ txf) (txb ++ ours ++ near ++ far ++ intervals) 5 (simp append_assoc)
        (simp (length-append, length-octets)) h.rxf

    txb-here : field_at 9 4 (session_octets s) ≡ s.last.txb
    unfolding session_octets
    txb-here =
        number_among little_endian 4 s.last.txb (kept ++ txf ++ rxf) (ours ++ near ++ far ++ intervals) 9 (simp append_assoc)
        (simp (length-append, length-octets)) h.txb

    ours-here : field_at 13 4 (session_octets s) ≡ s.last.ours
    unfolding session_octets
    ours-here =
        number_among little_endian 4 s.last.ours (kept ++ txf ++ rxf ++ txb) (near ++ far ++ intervals) 13 (simp append_assoc)
        (simp (length-append, length-octets)) h.ours

    near-here : signed_at 17 (session_octets s) ≡ s.near
    unfolding session_octets
    near-here =
        signed-there (kept ++ txf ++ rxf ++ txb ++ ours) (far ++ intervals) 17 s.near (simp append_assoc)
        (simp (length-append, length-octets)) h.near

    far-here : signed_at 25 (session_octets s) ≡ s.far
    unfolding session_octets
    far-here =
        signed-there (kept ++ txf ++ rxf ++ txb ++ ours ++ near) intervals 25 s.far refl (simp (length-append, length-octets)) h.far

    intervals-here : field_at 33 4 (session_octets s) ≡ s.intervals
    unfolding session_octets
    intervals-here =
        number_among little_endian 4 s.intervals (kept ++ txf ++ rxf ++ txb ++ ours ++ near ++ far) [] 33 (sym (append-nil _))
        (simp (length-append, length-octets)) h.intervals

pub back : (s : LossSession) → FieldsHold s → session_at (session_octets s) ≡ s
back s h =
    rw (
      kept_here s h,
      txf-here s h,
      rxf-here s h,
      txb-here s h,
      ours-here s h,
      near-here s h,
      far-here s h,
      intervals-here s h,
    )

pub sessions_in_octets : SessionsInOctets
sessions_in_octets = record { long = session-long; again = again; back = back }
