-- The walk for a type goes the way of the walk for the end, as far as it goes. So a search passes each TLV once. Assumes nothing.
use Prim.Native.Nat.{ℕ, zero, suc, ◌+◌, ◌≤◌, ◌<◌}
use mathlib.Core.Path.{◌≡◌, sym, ◌∙◌, subst}
use mathlib.Core.Bool.{true, false}
use mathlib.Core.List.{List}
use mathlib.Core.Logic.{⊎_elim}
use native.Mathlib.Omega.{arith}
use borrow.Author.Tests.{eqb-true, eqb-false, ltb-true, ltb-false}
use lib.Dec.{eqb, ltb}
use lib.ListN.{length, get_or}
use Rattle.base_laws.proofs.Tests.{known}
use Rattle.frame_tlvs.specs.declared.Place.{Place}
use Rattle.frame_tlvs.specs.declared.Place.TheVariants.{End, Found, Cut}
use Rattle.frame_tlvs.specs.Tlvs.{walk_from}
use Rattle.frame_tlvs.proofs.Steps.{length_at, past, ended, cut, found, next}

module _ (p : List ℕ) where
  -- where the walk for the end comes by, seen from place `at`, when the walk for a type has stopped
  abbrev pub Follows : ℕ → Place → Type 0
  Follows at (Found start len) = walk_from 0 at p ≡ walk_from 0 (start + len) p
  Follows at (End e) = walk_from 0 at p ≡ End e
  Follows at (Cut e) = walk_from 0 at p ≡ Cut e

  -- from one TLV to the next
  carried : (at later : ℕ) (w : Place) → walk_from 0 at p ≡ walk_from 0 later p → Follows later w → Follows at w
  carried at later (Found start len) e f = e ∙ f
  carried at later (End k) e f = e ∙ f
  carried at later (Cut k) e f = e ∙ f

  -- `left` bounds how far the walk can still go
  go : (kind left at : ℕ) → length p ≤ at + left → Follows at (walk_from kind at p)
  go kind zero at h = subst (Follows at) (sym (past kind at p (omega arith))) (past 0 at p (omega arith))
  go kind (suc left) at h =
      ⊎_elim
      (λ (t : ltb at (length p) ≡ true).
      let i : at < length p = ltb-true at (length p) t in
      ⊎_elim
      (λ (z : eqb (get_or p at 0) 0 ≡ true).
      let e : get_or p at 0 ≡ 0 = eqb-true (get_or p at 0) 0 z in
      subst (Follows at) (sym (ended kind at p i e)) (ended 0 at p i e))
      (λ (z : eqb (get_or p at 0) 0 ≡ false).
      let nz : get_or p at 0 ≡ 0 → ⊥ = eqb-false (get_or p at 0) 0 z in
      let n : ℕ = length_at at p in
      ⊎_elim
      (λ (c : ltb (length p) (at + 3 + n) ≡ true).
      let s : length p < at + 3 + n = ltb-true (length p) (at + 3 + n) c in
      subst (Follows at) (sym (cut kind at p i nz s)) (cut 0 at p i nz s))
      (λ (c : ltb (length p) (at + 3 + n) ≡ false).
      let f : at + 3 + n ≤ length p = ltb-false (length p) (at + 3 + n) c in
      let on : walk_from 0 at p ≡ walk_from 0 (at + 3 + n) p = next 0 at p i nz f nz in
      ⊎_elim
      (λ (k : eqb (get_or p at 0) kind ≡ true).
      subst (Follows at) (sym (found kind at p i nz f (eqb-true (get_or p at 0) kind k))) on)
      (λ (k : eqb (get_or p at 0) kind ≡ false).
      subst (Follows at) (sym (next kind at p i nz f (eqb-false (get_or p at 0) kind k)))
      (carried at (at + 3 + n) (walk_from kind (at + 3 + n) p) on (go kind left (at + 3 + n) (omega arith))))
      (known (eqb (get_or p at 0) kind)))
      (known (ltb (length p) (at + 3 + n))))
      (known (eqb (get_or p at 0) 0)))
      (λ (f : ltb at (length p) ≡ false).
      let o : length p ≤ at = ltb-false at (length p) f in
      subst (Follows at) (sym (past kind at p o)) (past 0 at p o))
      (known (ltb at (length p)))

  pub follows : (kind at : ℕ) → Follows at (walk_from kind at p)
  follows kind at = go kind (length p) at (omega arith)
