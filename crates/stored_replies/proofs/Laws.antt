-- Replies in octets and what working through them gives, reply by reply. Assumes nothing.
use Prim.Native.Nat.{ℕ, zero, suc, ◌+◌, ◌-◌, ◌*◌, ◌≤◌, ◌<◌}
use mathlib.Core.Path.{◌≡◌, refl, ap, ap₂, ◌∙◌}
use mathlib.Core.List.{List, [], ◌∷◌, ◌++◌, append_assoc}
use mathlib.Core.Bool.{true, false}
use mathlib.Core.Logic.{⊎_elim}
use native.Mathlib.Omega.{arith}
use native.Mathlib.Nat.{zero-add}
use lib.IntN.{ℤ}
use lib.ListN.{length, drop, length-drop}
use lib.Seq.{drop-drop, drop-append-le}
use borrow.Author.Tests.{eqb-false, eq-eqb, ne_eqb}
use Rattle.std.specs.Prelude.{Result}
use Rattle.base_laws.specs.Ended.{wrote}
use Rattle.base_laws.proofs.Ended.{buffer-is}
use Rattle.base_laws.specs.Tests.{choose}
use Rattle.base_laws.proofs.Tests.{known}
use Rattle.base_laws.proofs.Apart.{part-front, laid-whole}
use Rattle.loss_session.specs.declared.Readings.{Readings}
use Rattle.loss_session.specs.declared.LossSession.{LossSession}
use Rattle.loss_session.specs.Session.{near, far, well_formed}
use Rattle.loss_reading.specs.Reading.{after_reading}
use Rattle.loss_reading.specs.Told.{loss_numbers}
use Rattle.loss_reading.proofs.Refusals.{sessions}
use Rattle.stored_record.specs.declared.RecordRefusal.{RecordRefusal}
use Rattle.stored_line.specs.declared.LossLine.{LossLine}
use Rattle.stored_line.specs.Line.{KeepsRules, line_record}
use Rattle.stored_line.specs.LineCalls.{write_line}
use Rattle.stored_line.proofs.Laws.{line-long}
use Rattle.stored_line.proofs.LineRecords.{loss-records}
use Rattle.stored_replies.specs.Replies.{readings_in, replies_in, line_of, Worked, stopped, behind, worked}

-- ── a reply in octets ──

-- the next of some replies
pub replies-next : (n : ℕ) (octets : List ℕ) → 0 < n → replies_in n octets ≡ readings_in octets ∷ replies_in (n - 1) (drop 16 octets)
unfolding replies_in
replies-next zero octets h = absurd (omega (arith, h))
replies-next (suc n) octets h =
    let less : n ≡ suc n - 1 = omega arith in
    ap (λ (k : ℕ). readings_in octets ∷ replies_in k (drop 16 octets)) less

-- what stands behind them is not looked at
pub replies-front : (n : ℕ) (octets rest : List ℕ) → n * 16 ≤ length octets → replies_in n (octets ++ rest) ≡ replies_in n octets
unfolding replies_in
replies-front zero octets rest h = refl
replies-front (suc n) octets rest h =
    ap₂ (λ (r : Readings) (rs : List Readings). r ∷ rs)
    (rw (
      part-front 0 4 octets rest (omega arith),
      part-front 4 4 octets rest (omega arith),
      part-front 8 4 octets rest (omega arith),
      part-front 12 4 octets rest (omega arith),
    ))
    (ap (replies_in n) (drop-append-le 16 octets rest (omega arith))
    ∙ replies-front n (drop 16 octets) rest (rw (length-drop 16 octets) (omega arith)))

-- so many, and so many more
pub replies-both : (m n : ℕ) (octets : List ℕ) → replies_in (m + n) octets ≡ replies_in m octets ++ replies_in n (drop (m * 16) octets)
unfolding replies_in
replies-both zero n octets = ap (λ (k : ℕ). replies_in k octets) (zero-add n)
replies-both (suc m) n octets =
    let a : suc m + n ≡ suc (m + n) = omega arith in
    let b : 16 + m * 16 ≡ suc m * 16 = omega arith in
    ap (λ (k : ℕ). replies_in k octets) a
    ∙ ap (λ (rs : List Readings). readings_in octets ∷ rs)
    (replies-both m n (drop 16 octets) ∙ ap (λ (l : List ℕ). replies_in m (drop 16 octets) ++ replies_in n l)
    (drop-drop (m * 16) 16 octets ∙ ap (λ (k : ℕ). drop k octets) b))

-- ── a record ──

-- a line that keeps the rules, written over 24 octets, is its record
pub record_is : (line : LossLine) (l : List ℕ) {r : Result ℕ RecordRefusal} {after : List ℕ} {n f : ℤ} → length l ≡ 24 → KeepsRules line
    → n ≡ line.near → f ≡ line.far
    → wrote r after ≡ write_line (record { near = n; far = f; intervals = line.intervals }) l → after ≡ line_record line
record_is line l {r} {after} {n} {f} h k en ef e =
    let same : wrote r after ≡ write_line line l = e
    ∙ ap₂ (λ (x y : ℤ). write_line (record { near = x; far = y; intervals = line.intervals }) l) en ef in
    buffer-is (same ∙ loss-records.writes line l k (omega (arith, h)))
    ∙ laid-whole l (line_record line) 24 h (line-long line)

-- ── one reply more ──

module _ (s : LossSession) (r : Readings) where
  -- a reply that is not refused meets a well-formed session, and leaves one
  taken-well : (loss_numbers s r).refusal ≡ 0 → well_formed s ≡ true
  unfolding loss_numbers choose
  taken-well e = ⊎_elim (λ t. t) (λ f. absurd (eqb-false 2 0 refl (refused f ∙ e))) (known (well_formed s))
    where
      refused : well_formed s ≡ false → 2 ≡ (loss_numbers s r).refusal
      refused f = rw f

  pub taken-kept : (loss_numbers s r).refusal ≡ 0 → KeepsRules (line_of (after_reading s r).session)
  taken-kept e =
      let w = sessions.stays s r ((sessions.well s).0 (taken-well e)) in
      record { few = w.few; near = w.total near; far = w.total far }

  pub worked-taken : (rs : List Readings) → (loss_numbers s r).refusal ≡ 0
      → worked s (r ∷ rs) ≡ behind (line_record (line_of (after_reading s r).session)) 1 (worked (after_reading s r).session rs)
  unfolding worked
  worked-taken rs e = rw (eq-eqb (loss_numbers s r).refusal 0 e)

  pub worked-refused : (rs : List Readings) → ((loss_numbers s r).refusal ≡ 0 → ⊥) → worked s (r ∷ rs) ≡ stopped (loss_numbers s r).refusal s
  unfolding worked
  worked-refused rs n = rw (ne_eqb (loss_numbers s r).refusal 0 n)

pub worked-none : (s : LossSession) → worked s [] ≡ stopped 0 s
unfolding worked
worked-none s = refl

-- one part behind another
pub behind-both : (xs ys : List ℕ) (m n : ℕ) (w : Worked) → behind xs m (behind ys n w) ≡ behind (xs ++ ys) (m + n) w
behind-both xs ys m n w =
    let a : m + (n + w.taken) ≡ m + n + w.taken = omega arith in
    rw (append_assoc xs ys w.records, a)
