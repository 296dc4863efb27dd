-- When a stamp is good, is given, and goes with another, by the paper and by the box. Assumes nothing.
use mathlib.Core.Path.{◌≡◌, refl, sym, ap, ◌∙◌}
use mathlib.Core.Bool.{Bool, true, false, not, true≢false}
use lib.Dec.{eqb}
use borrow.Author.Tests.{leb-true, le-leb, eqb-true, eq-eqb, not-false}
use Rattle.base_laws.proofs.Tests.{split, join}
use Rattle.base_stamp.specs.declared.Stamp.{Stamp}
use Rattle.base_stamp.specs.Stamps.{good, given}
use Rattle.receive_delay.specs.Used.{paired}
use Rattle.paper_said.specs.Calls.{Arrival}
use Rattle.paper_said.specs.Cases.{StampGood}
use Rattle.paper_said.specs.Taken.{NotGiven, rxf, txb, Paired}

-- a test that is not true is false
pub untrue : (b : Bool) → (b ≡ true → ⊥) → b ≡ false
untrue true n = absurd (n refl)
untrue false n = refl

-- and one that is not false is true
pub unfalse : (b : Bool) → (b ≡ false → ⊥) → b ≡ true
unfalse true n = refl
unfalse false n = absurd (n refl)

-- ── one stamp ──

pub good-yes : (t : Stamp) → StampGood t → good t ≡ true
good-yes t h = le-leb t.nanoseconds 999999999 h

pub good-only : (t : Stamp) → good t ≡ true → StampGood t
good-only t e = leb-true t.nanoseconds 999999999 e

pub good-no : (t : Stamp) → (StampGood t → ⊥) → good t ≡ false
good-no t n = untrue (good t) (λ e. n (good-only t e))

pub given-no : (t : Stamp) → NotGiven t → given t ≡ false
given-no t n =
    ap not (join (eqb t.seconds 0) (eqb t.nanoseconds 0) (eq-eqb t.seconds 0 n.seconds)
    (eq-eqb t.nanoseconds 0 n.nanoseconds))

pub given-only : (t : Stamp) → given t ≡ false → NotGiven t
given-only t e =
    let p = split (eqb t.seconds 0) (eqb t.nanoseconds 0) (not-false _ e) in
    record { seconds = eqb-true t.seconds 0 p.0; nanoseconds = eqb-true t.nanoseconds 0 p.1 }

pub given_yes : (t : Stamp) → (NotGiven t → ⊥) → given t ≡ true
given_yes t n = unfalse (given t) (λ e. n (given-only t e))

module _ (a : Arrival) where
  -- ── those of a reply ──

  pub paired_yes : Paired a → paired (rxf a) (txb a) ≡ true
  paired_yes p = join (given (rxf a)) (given (txb a)) (given_yes (rxf a) p.rx) (given_yes (txb a) p.tx)

  pub paired-only : paired (rxf a) (txb a) ≡ true → Paired a
  paired-only e =
      let p = split (given (rxf a)) (given (txb a)) e in
      record { rx = λ n. true≢false (sym p.0 ∙ given-no (rxf a) n); tx = λ n. true≢false (sym p.1 ∙ given-no (txb a) n) }

  pub paired_no : (Paired a → ⊥) → paired (rxf a) (txb a) ≡ false
  paired_no n = untrue (paired (rxf a) (txb a)) (λ e. n (paired-only e))
