-- The test of a record's head and the rules it stands for. Assumes nothing.
use Prim.Native.Nat.{ℕ, ◌+◌, ◌≤◌, ◌<◌}
use mathlib.Core.Path.{◌≡◌, sym, ◌∙◌}
use mathlib.Core.List.{List}
use mathlib.Core.Bool.{true, false, ◌&&◌, true≢false}
use mathlib.Core.Logic.{⊎_elim}
use native.Mathlib.Omega.{arith}
use lib.Dec.{leb, eqb}
use lib.ListN.{length}
use borrow.Author.Tests.{leb-true, leb-false, le-leb, eqb-true, eqb-false, eq-eqb}
use Rattle.base_laws.proofs.Tests.{fails, known, both_true}
use Rattle.stored_record.specs.Record.{length_field, kind_field, IsRecord, NoRecord, no_head, wrong_length, wrong_kind, cut_short}
use Rattle.stored_record.specs.Record.{is_record}

module _ (kind body : ℕ) (octets : List ℕ) where
  tests : is_record kind body octets ≡ true → (leb (4 + body) (length octets) ≡ true) × (eqb (length_field octets) (2 + body) ≡ true)
      × (eqb (kind_field octets) kind ≡ true)
  unfolding is_record
  tests h =
      let a = (both_true (leb (4 + body) (length octets)) (eqb (length_field octets) (2 + body) && eqb (kind_field octets) kind)).0 h in
      let b = (both_true (eqb (length_field octets) (2 + body)) (eqb (kind_field octets) kind)).0 a.1 in
      (a.0, b.0, b.1)

  pub record_to : is_record kind body octets ≡ true → IsRecord kind body octets
  record_to h =
      let t = tests h in
      let long = leb-true (4 + body) (length octets) t.0 in
      record { head = omega arith; length_is = eqb-true _ _ t.1; kind_is = eqb-true _ _ t.2; whole = omega arith }

  pub record_from : IsRecord kind body octets → is_record kind body octets ≡ true
  unfolding is_record
  record_from r =
      let long : 4 + body ≤ length octets = omega (arith, r.whole) in
      (both_true (leb (4 + body) (length octets)) _).1 (
        le-leb _ _ long,
        (both_true (eqb (length_field octets) (2 + body)) (eqb (kind_field octets) kind)).1
            (eq-eqb _ _ r.length_is, eq-eqb _ _ r.kind_is),
      )

  pub none-to : is_record kind body octets ≡ false → NoRecord kind body octets
  unfolding is_record
  none-to h = ⊎_elim
      (λ long. ⊎_elim
      (λ field. ⊎_elim
      (λ k. absurd (true≢false (sym ((both_true (leb (4 + body) (length octets)) _).1
      (long, (both_true (eqb (length_field octets) (2 + body)) (eqb (kind_field octets) kind)).1 (field, k))) ∙ h)))
      (λ k. wrong_kind (eqb-false _ _ k))
      (known (eqb (kind_field octets) kind)))
      (λ field. wrong_length (eqb-false _ _ field))
      (known (eqb (length_field octets) (2 + body))))
      (λ long. cut_short (omega (arith, leb-false (4 + body) (length octets) long)))
      (known (leb (4 + body) (length octets)))

  broken : NoRecord kind body octets → IsRecord kind body octets → ⊥
  broken (no_head h) r = omega (arith, h, r.head)
  broken (wrong_length h) r = h r.length_is
  broken (wrong_kind h) r = h r.kind_is
  broken (cut_short h) r = omega (arith, h, r.whole)

  pub none_from : NoRecord kind body octets → is_record kind body octets ≡ false
  none_from n = fails (record_to, record_from) (broken n)

-- what the code has found out is the test
pub too_short : (kind body : ℕ) (octets : List ℕ) → length octets < 4 + body → false ≡ is_record kind body octets
too_short kind body octets h = sym (none_from kind body octets (cut_short (omega (arith, h))))

pub fields_tell : (kind body : ℕ) (octets : List ℕ) {size sort : ℕ} → 4 + body ≤ length octets → size ≡ length_field octets
    → sort ≡ kind_field octets
    → (eqb size (body + 2) && eqb sort kind) ≡ is_record kind body octets
unfolding is_record
fields_tell kind body octets h e f =
    let same : body + 2 ≡ 2 + body = omega arith in
    rw (e, f, same, le-leb (4 + body) (length octets) h)
