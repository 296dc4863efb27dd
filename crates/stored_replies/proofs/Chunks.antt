-- How many replies are taken and how long their records are, and chunks one after another. Assumes nothing.
use Prim.Native.Nat.{ℕ, zero, suc, ◌+◌, ◌*◌, ◌/◌, ◌≤◌}
use mathlib.Core.Path.{◌≡◌, refl, sym, ap, ap₂, ◌∙◌}
use mathlib.Core.List.{List, [], ◌∷◌, ◌++◌}
use mathlib.Core.Bool.{true, false}
use mathlib.Core.Logic.{◌⊎◌, inl, inr, ⊎_elim}
use native.Mathlib.Omega.{arith}
use lib.Dec.{eqb}
use lib.ListN.{length, drop, length-append}
use lib.Seq.{drop_at}
use borrow.Author.Tests.{eqb-true, eqb-false, ne_eqb}
use Rattle.base_laws.proofs.Tests.{known}
use Rattle.loss_session.specs.declared.Readings.{Readings}
use Rattle.loss_session.specs.declared.LossSession.{LossSession}
use Rattle.loss_reading.specs.Reading.{after_reading}
use Rattle.loss_reading.specs.Told.{loss_numbers}
use Rattle.stored_line.specs.Line.{line_record}
use Rattle.stored_line.proofs.Laws.{line-long}
use Rattle.stored_replies.specs.Replies.{replies_in, replies, line_of, Worked, stopped, behind, worked}
use Rattle.stored_replies.specs.Recount.{and_then}
use Rattle.stored_replies.proofs.Laws.{replies-front, replies-both, worked-taken, worked-refused, worked-none, behind-both}
use Rattle.stored_replies.proofs.Turns.{from-here}

-- taken, or not
decided : (s : LossSession) (r : Readings) → ((loss_numbers s r).refusal ≡ 0) ⊎ ((loss_numbers s r).refusal ≡ 0 → ⊥)
decided s r = ⊎_elim (λ t. inl (eqb-true _ _ t)) (λ f. inr (eqb-false _ _ f)) (known (eqb (loss_numbers s r).refusal 0))

-- a record of 24 octets for each reply taken, and never more than there are
pub record Sized (w : Worked) (n : ℕ) : Type 0 where
  pub long : length w.records ≡ w.taken * 24
  pub most : w.taken ≤ n

pub sized : (rs : List Readings) (s : LossSession) → Sized (worked s rs) (length rs)
sized [] s = rw (worked-none s) (record { long = refl; most = omega arith })
sized (r ∷ rs) s = by (sized rs (after_reading s r).session) (decided s r)
  where
    by : Sized (worked (after_reading s r).session rs) (length rs) → ((loss_numbers s r).refusal ≡ 0) ⊎ ((loss_numbers s r).refusal ≡ 0 → ⊥)
        → Sized (worked s (r ∷ rs)) (length (r ∷ rs))
    by more (inl e) =
        let w = worked (after_reading s r).session rs in
        let line = line_record (line_of (after_reading s r).session) in
        let all : Sized (behind line 1 w) (length (r ∷ rs)) = record {
          long = length-append line w.records ∙ omega (arith, line-long (line_of (after_reading s r).session), more.long);
          most = omega (arith, more.most);
        } in
        rw (worked-taken s r rs e) all
    by more (inr n) =
        let none : Sized (stopped (loss_numbers s r).refusal s) (length (r ∷ rs)) = record { long = refl; most = omega arith } in
        rw (worked-refused s r rs n) none

pub replies-long : (n : ℕ) (octets : List ℕ) → length (replies_in n octets) ≡ n
unfolding replies_in
replies-long zero octets = refl
replies-long (suc n) octets = ap suc (replies-long n (drop 16 octets))

-- ── two parts ──

pub two : (rs qs : List Readings) (s : LossSession) → worked s (rs ++ qs) ≡ and_then (worked s rs) (λ t. worked t qs)
two [] qs s = rw (worked-none s) (from-here (worked s qs))
two (r ∷ rs) qs s = by (two rs qs (after_reading s r).session) (decided s r)
  where
    after : LossSession
    after = (after_reading s r).session

    line : List ℕ
    line = line_record (line_of (after_reading s r).session)

    -- the first reply in front of both sides
    front : (w : Worked) (f : LossSession → Worked) → behind line 1 (and_then w f) ≡ and_then (behind line 1 w) f
    front w f = choose (known (eqb w.halted 0))
      where
        choose : (eqb w.halted 0 ≡ true) ⊎ (eqb w.halted 0 ≡ false) → behind line 1 (and_then w f) ≡ and_then (behind line 1 w) f
        choose (inl b) = rw b (behind-both line w.records 1 w.taken (f w.session))
        choose (inr b) = rw b

    by : worked (after_reading s r).session (rs ++ qs) ≡ and_then (worked (after_reading s r).session rs) (λ t. worked t qs)
        → ((loss_numbers s r).refusal ≡ 0) ⊎ ((loss_numbers s r).refusal ≡ 0 → ⊥)
        → worked s (r ∷ (rs ++ qs)) ≡ and_then (worked s (r ∷ rs)) (λ t. worked t qs)
    by more (inl e) =
        worked-taken s r (rs ++ qs) e
        ∙ ap (behind line 1) more
        ∙ front (worked (after_reading s r).session rs) (λ t. worked t qs)
        ∙ ap (λ (w : Worked). and_then w (λ t. worked t qs)) (sym (worked-taken s r rs e))
    by more (inr n) =
        worked-refused s r (rs ++ qs) n
        ∙ stays
        ∙ ap (λ (w : Worked). and_then w (λ t. worked t qs)) (sym (worked-refused s r rs n))
      where
        stays : stopped (loss_numbers s r).refusal s ≡ and_then (stopped (loss_numbers s r).refusal s) (λ t. worked t qs)
        stays = rw (ne_eqb (loss_numbers s r).refusal 0 n)

pub chunks : (s : LossSession) (chunk rest : List ℕ) (k : ℕ) → length chunk ≡ k * 16
    → worked s (replies (chunk ++ rest)) ≡ and_then (worked s (replies chunk)) (λ t. worked t (replies rest))
chunks s chunk rest k h =
    let all : length (chunk ++ rest) / 16 ≡ k + length rest / 16 = ap (λ (n : ℕ). n / 16) (length-append chunk rest) ∙ omega (arith, h) in
    let here : length chunk / 16 ≡ k = omega (arith, h) in
    let behind-it : drop (k * 16) (chunk ++ rest) ≡ rest = drop_at chunk rest (k * 16) h in
    let parts : replies (chunk ++ rest) ≡ replies chunk ++ replies rest =
    ap (λ (n : ℕ). replies_in n (chunk ++ rest)) all
    ∙ replies-both k (length rest / 16) (chunk ++ rest)
    ∙ ap₂ (λ (a b : List Readings). a ++ b) (replies-front k chunk rest (omega (arith, h)) ∙ ap (λ (n : ℕ). replies_in n chunk) (sym here))
    (ap (replies_in (length rest / 16)) behind-it) in
    ap (worked s) parts ∙ two (replies chunk) (replies rest) s
