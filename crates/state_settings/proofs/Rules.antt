-- The statement of specs/Valid.antt: the test holds exactly where the rules do. Assumes nothing.
use Prim.Native.Nat.{ℕ, ◌+◌, ◌-◌, ◌≤◌, ◌<◌}
use mathlib.Core.Path.{◌≡◌, sym, ap, ◌∙◌}
use mathlib.Core.List.{List}
use mathlib.Core.Bool.{true, false, ◌&&◌, not, false≢true}
use mathlib.Core.Logic.{⊎_elim}
use native.Mathlib.Omega.{arith}
use lib.Dec.{leb, eqb, ltb}
use lib.ListN.{length, get_or, take, drop, length-drop, get_or-eq_default}
use lib.Seq.{length-take-le, get_or-take, get_or-drop}
use borrow.Author.Tests.{le-leb, leb-true, eq-eqb, eqb-true, ne_eqb, eqb-false, not-true, ltb-true, ltb-false}
use Rattle.base_laws.specs.Lists.{every, same, distinct}
use Rattle.base_laws.proofs.Tests.{known, split, join}
use Rattle.base_laws.proofs.Everywhere.{every_is}
use Rattle.base_laws.proofs.Meanings.{same_is, distinct_is}
use Rattle.base_words.specs.Words.{within}
use Rattle.state_settings.specs.Settings.{Settings}
use Rattle.state_settings.specs.Valid.{IsMepId, group_bit, Valid, numbers_good, addresses_good, valid, ValidIs}
use Rattle.state_peer_ids.specs.Ids.{mep_good, id_good, peers_good}

-- ── a MEP ID ──

mep-to : (id : ℕ) → mep_good id ≡ true → IsMepId id
mep-to id h =
    let p = split (leb 1 id) (leb id 8191) h in
    record { least = leb-true 1 id p.0; most = leb-true id 8191 p.1 }

mep-from : (id : ℕ) → IsMepId id → mep_good id ≡ true
mep-from id h = join (leb 1 id) (leb id 8191) (le-leb 1 id h.least) (le-leb id 8191 h.most)

-- two lists that are not the same
differ-to : (l m : List ℕ) → not (same l m) ≡ true → l ≡ m → ⊥
differ-to l m h e = false≢true (sym (not-true (same l m) h) ∙ (same_is l m).1 e)

differ-from : (l m : List ℕ) → (l ≡ m → ⊥) → not (same l m) ≡ true
differ-from l m n =
    ⊎_elim (λ (t : same l m ≡ true). absurd (n ((same_is l m).0 t))) (λ (t : same l m ≡ false). ap not t) (known (same l m))

-- ── the slots ──

record Slots (count mep : ℕ) (ids : List ℕ) : Type 0 where
  enough : count ≤ length ids
  used : (i : ℕ) → i < count → IsMepId (get_or ids i 0)
  others : (i : ℕ) → i < count → get_or ids i 0 ≡ mep → ⊥
  distinct_all : (i j : ℕ) → i < j → j < count → get_or ids i 0 ≡ get_or ids j 0 → ⊥
  unused : (i : ℕ) → count ≤ i → get_or ids i 0 ≡ 0

module _ (count mep : ℕ) (ids : List ℕ) where
  slots-to : peers_good count mep ids ≡ true → Slots count mep ids
  unfolding peers_good
  slots-to h =
      let p = split (leb count (length ids)) _ h in
      let q = split (every (id_good mep) (take count ids) && distinct (take count ids)) (every (within 0) (drop count ids)) p.1 in
      let r = split (every (id_good mep) (take count ids)) (distinct (take count ids)) q.0 in
      let n : count ≤ length ids = leb-true count (length ids) p.0 in
      let long : length (take count ids) ≡ count = length-take-le count ids n in
      let id : (i : ℕ) → i < count → id_good mep (get_or ids i 0) ≡ true =
      λ i k. ap (id_good mep) (sym (get_or-take count ids i 0 k))
      ∙ (every_is (id_good mep) (take count ids) 0).0 r.0 i (omega (arith, long)) in
      record {
        enough = n;
        used = λ i k. mep-to (get_or ids i 0) (split (mep_good (get_or ids i 0)) (not (eqb (get_or ids i 0) mep)) (id i k)).0;
        others = λ i k. eqb-false (get_or ids i 0) mep
            (not-true (eqb (get_or ids i 0) mep) (split (mep_good (get_or ids i 0)) (not (eqb (get_or ids i 0) mep)) (id i k)).1);
        distinct_all = λ i j a b e. (distinct_is (take count ids)).0 r.1 i j a (omega (arith, long))
            (get_or-take count ids i 0 (omega arith) ∙ e ∙ sym (get_or-take count ids j 0 b));
        unused = λ i k. rest i k q.1;
      }
    where
      rest : (i : ℕ) → count ≤ i → every (within 0) (drop count ids) ≡ true → get_or ids i 0 ≡ 0
      rest i k t =
          ⊎_elim
          (λ (b : ltb i (length ids) ≡ true).
          let m : count + (i - count) ≡ i = omega arith in
          let w = (every_is (within 0) (drop count ids) 0).0 t (i - count) (rw length-drop (omega (arith, ltb-true i (length ids) b))) in
          let z : get_or (drop count ids) (i - count) 0 ≤ 0 = leb-true (get_or (drop count ids) (i - count) 0) 0 w in
          let g : get_or (drop count ids) (i - count) 0 ≡ get_or ids i 0 = get_or-drop count ids (i - count) 0 ∙ ap (λ (n : ℕ). get_or ids n 0) m in
          omega arith)
          (λ (b : ltb i (length ids) ≡ false). get_or-eq_default ids 0 (ltb-false i (length ids) b))
          (known (ltb i (length ids)))

  slots-from : Slots count mep ids → peers_good count mep ids ≡ true
  unfolding peers_good
  slots-from s =
      let n = s.enough in
      let long : length (take count ids) ≡ count = length-take-le count ids n in
      let each = (every_is (id_good mep) (take count ids) 0).1 (λ i k.
      let h : i < count = omega (arith, long) in
      ap (id_good mep) (get_or-take count ids i 0 h)
      ∙ join (mep_good (get_or ids i 0)) (not (eqb (get_or ids i 0) mep)) (mep-from (get_or ids i 0) (s.used i h))
      (ap not (ne_eqb (get_or ids i 0) mep (s.others i h)))) in
      let apart = (distinct_is (take count ids)).1 (λ i j a b e.
      let hj : j < count = omega (arith, long) in
      s.distinct_all i j a hj (sym (get_or-take count ids i 0 (omega arith)) ∙ e ∙ get_or-take count ids j 0 hj)) in
      let zeros = (every_is (within 0) (drop count ids) 0).1 (λ i k.
      le-leb (get_or (drop count ids) i 0) 0 (omega (arith, get_or-drop count ids i 0, s.unused (count + i) (omega arith)))) in
      join (leb count (length ids)) _ (le-leb count (length ids) n)
      (join (every (id_good mep) (take count ids) && distinct (take count ids)) (every (within 0) (drop count ids))
      (join (every (id_good mep) (take count ids)) (distinct (take count ids)) each apart) zeros)

-- ── all of them ──

module _ (s : Settings) where
  to : valid s ≡ true → Valid s
  unfolding valid
  to h =
      let a = split (numbers_good s.level s.mep s.period s.count) _ h in
      let b = split (addresses_good s.own s.losspeer) (peers_good s.count s.mep s.ids) a.1 in
      let n = split _ (leb 1 s.count) a.0 in
      let m = split (leb s.level 7 && mep_good s.mep) (leb 1 s.period && leb s.period 7) n.0 in
      let l = split (leb s.level 7) (mep_good s.mep) m.0 in
      let p = split (leb 1 s.period) (leb s.period 7) m.1 in
      let d = split _ (not (same s.own s.losspeer)) b.0 in
      let g = split (eqb (group_bit s.own) 0) (eqb (group_bit s.losspeer) 0) d.0 in
      let t = slots-to s.count s.mep s.ids b.1 in
      record {
        level = leb-true s.level 7 l.0;
        mep = mep-to s.mep l.1;
        some_period = leb-true 1 s.period p.0;
        period = leb-true s.period 7 p.1;
        some_peer = leb-true 1 s.count n.1;
        slots = t.enough;
        own = eqb-true (group_bit s.own) 0 g.0;
        losspeer = eqb-true (group_bit s.losspeer) 0 g.1;
        differ = differ-to s.own s.losspeer d.1;
        used = t.used;
        others = t.others;
        distinct = t.distinct_all;
        unused = t.unused;
      }

  from : Valid s → valid s ≡ true
  unfolding valid
  from v =
      let slots : Slots s.count s.mep s.ids =
      record { enough = v.slots; used = v.used; others = v.others; distinct_all = v.distinct; unused = v.unused } in
      let period = join (leb 1 s.period) (leb s.period 7) (le-leb 1 s.period v.some_period)
      (le-leb s.period 7 v.period) in
      let first = join (leb s.level 7) (mep_good s.mep) (le-leb s.level 7 v.level) (mep-from s.mep v.mep) in
      let numbers = join _ (leb 1 s.count) (join (leb s.level 7 && mep_good s.mep)
      (leb 1 s.period && leb s.period 7) first period) (le-leb 1 s.count v.some_peer) in
      let bits = join (eqb (group_bit s.own) 0) (eqb (group_bit s.losspeer) 0) (eq-eqb (group_bit s.own) 0 v.own)
      (eq-eqb (group_bit s.losspeer) 0 v.losspeer) in
      join (numbers_good s.level s.mep s.period s.count) _ numbers
      (join (addresses_good s.own s.losspeer) (peers_good s.count s.mep s.ids)
      (join _ (not (same s.own s.losspeer)) bits (differ-from s.own s.losspeer v.differ))
      (slots-from s.count s.mep s.ids slots))

-- there are as many IDs as slots, so no more peers than slots
pub valid_is : ValidIs
valid_is = record { valid_is = λ s. (to s, from s); peers = λ s h v. (v.some_peer, omega (arith, v.slots, h.ids)) }
