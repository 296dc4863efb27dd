-- How many replies a well-formed session takes, and what it is once it takes no more. Assumes nothing.
use Prim.Native.Nat.{ℕ, suc, ◌+◌, ◌-◌, ◌*◌, ◌/◌, ◌<◌}
use mathlib.Core.Path.{◌≡◌, refl, sym, ap, ◌∙◌}
use mathlib.Core.List.{List, [], ◌∷◌, append-nil}
use mathlib.Core.Logic.{◌⊎◌, inl, inr}
use native.Mathlib.Omega.{arith}
use lib.ListN.{length, take, drop, take-append-drop, length-drop}
use lib.Seq.{length-take-le}
use borrow.Author.Tests.{eq-eqb}
use Rattle.loss_session.specs.declared.Readings.{Readings}
use Rattle.loss_session.specs.declared.LossSession.{LossSession}
use Rattle.loss_session.specs.Session.{WellFormed, most_intervals}
use Rattle.loss_reading.specs.declared.LossTold.{LossTold}
use Rattle.loss_reading.specs.declared.Updated.{Updated}
use Rattle.loss_reading.specs.Reading.{after_reading}
use Rattle.loss_reading.specs.Told.{loss_told, loss_numbers}
use Rattle.loss_reading.proofs.Laws.{Case, bad, begins, stops, measures, cases}
use Rattle.loss_reading.proofs.Refusals.{sessions}
use Rattle.loss_reading.proofs.Numbers.{told-numbers}
use Rattle.stored_line.specs.Line.{line_record}
use Rattle.stored_replies.specs.Replies.{readings_in, replies_in, replies, line_of, Worked, stopped, behind, worked}
use Rattle.stored_replies.specs.Recount.{and_then, still_takes}
use Rattle.stored_replies.proofs.Laws.{replies-next, worked-taken, worked-refused, worked-none}
use Rattle.stored_replies.proofs.Chunks.{replies-long, chunks}

-- one more reply: it is taken, and one fewer may follow; or the session takes none
data Next (s : LossSession) (r : Readings) : Type 0 where
  takes : (loss_numbers s r).refusal ≡ 0 → still_takes s ≡ suc (still_takes (after_reading s r).session) → Next s r
  full : (loss_numbers s r).refusal ≡ 5 → still_takes s ≡ 0 → Next s r

next : (s : LossSession) (r : Readings) → WellFormed s → Next s r
unfolding loss_told
next s r w = by (cases s r)
  where
    number : {u : Updated} → after_reading s r ≡ u → (loss_numbers s r).refusal ≡ (loss_told u.answer).refusal
    number e = ap (λ (n : LossTold). n.refusal) (sym (told-numbers s r)) ∙ ap (λ (v : Updated). (loss_told v.answer).refusal) e

    by : Case s r → Next s r
    by (bad n e) = absurd (n w)
    by (begins v k e) = takes (number e) (rw e (omega (arith, k, (w.nothing k).0)))
    by (stops v k i e) = full (number e) (omega (arith, k, i))
    by (measures v k i e) = takes (number e) (rw e (omega (arith, k, i)))

-- a session that takes no more has a reading kept and every interval used
pub used-up : (s : LossSession) → WellFormed s → still_takes s ≡ 0 → (s.kept ≡ 1) × (s.intervals ≡ most_intervals)
used-up s w z = (omega (arith, z, w.flag, w.few), omega (arith, z, w.flag, w.few))

-- ── n replies ──

-- gone to the end, and so many fewer may follow; or halted where the session takes no more
abbrev pub End : LossSession → ℕ → Worked → Type 0
End s n w =
    ((w.halted ≡ 0) × (w.taken ≡ n) × (still_takes w.session + n ≡ still_takes s))
    ⊎ ((w.halted ≡ 5) × (w.taken ≡ still_takes s) × (still_takes s < n) × (still_takes w.session ≡ 0))

pub record Gone (s : LossSession) (n : ℕ) (w : Worked) : Type 0 where
  pub well : WellFormed w.session
  pub end : End s n w

pub gone : (rs : List Readings) (s : LossSession) → WellFormed s → Gone s (length rs) (worked s rs)
gone [] s w = rw (worked-none s) (record { well = w; end = inl (refl, refl, omega arith) })
gone (r ∷ rs) s w = by (gone rs (after_reading s r).session (sessions.stays s r w)) (next s r w)
  where
    step : (v : Worked) → still_takes s ≡ suc (still_takes (after_reading s r).session) → End (after_reading s r).session (length rs) v
        → End s (length (r ∷ rs)) (behind (line_record (line_of (after_reading s r).session)) 1 v)
    step v d (inl e) = inl (e.0, omega (arith, e.1), omega (arith, d, e.2))
    step v d (inr e) = inr (e.0, omega (arith, d, e.1), omega (arith, d, e.2), e.3)

    by : Gone (after_reading s r).session (length rs) (worked (after_reading s r).session rs) → Next s r
        → Gone s (length (r ∷ rs)) (worked s (r ∷ rs))
    by more (takes e d) =
        let line = line_record (line_of (after_reading s r).session) in
        let all : Gone s (length (r ∷ rs)) (behind line 1 (worked (after_reading s r).session rs)) =
        record { well = more.well; end = step (worked (after_reading s r).session rs) d more.end } in
        rw (worked-taken s r rs e) all
    by more (full e z) =
        let none : Gone s (length (r ∷ rs)) (stopped (loss_numbers s r).refusal s) =
        record { well = w; end = inr (e, sym z, omega (arith, z), z) } in
        rw (worked-refused s r rs (λ n. omega (arith, e, n))) none

-- a session that takes no more halts at the first reply
at_once : (s : LossSession) (octets : List ℕ) → WellFormed s → still_takes s ≡ 0 → 0 < length octets / 16
    → worked s (replies octets) ≡ stopped 5 s
at_once s octets w z some =
    let r = readings_in octets in
    let rs = replies_in (length octets / 16 - 1) (drop 16 octets) in
    ap (worked s) (replies-next (length octets / 16) octets some) ∙ by r rs (next s r w)
  where
    by : (r : Readings) (rs : List Readings) → Next s r → worked s (r ∷ rs) ≡ stopped 5 s
    by r rs (takes e d) = absurd (omega (arith, d, z))
    by r rs (full e f) = worked-refused s r rs (λ n. omega (arith, e, n)) ∙ ap (λ (n : ℕ). stopped n s) e

-- the replies before a halt, by themselves: they leave what is left, and do not halt
pub fore : (s : LossSession) (octets : List ℕ) → WellFormed s → still_takes s < length octets / 16
    → let w = worked s (replies (take (still_takes s * 16) octets)) in
    worked s (replies octets) ≡ record { records = w.records; halted = 5; taken = w.taken; session = w.session }
fore s octets w less =
    let k = still_takes s in
    let first = take (k * 16) octets in
    let rest = drop (k * 16) octets in
    let long : length first ≡ k * 16 = length-take-le (k * 16) octets (omega (arith, less)) in
    let count : length (replies first) ≡ k = replies-long (length first / 16) first ∙ omega (arith, long) in
    let g : Gone s k (worked s (replies first)) = rw count at (gone (replies first) s w) in
    let some : 0 < length rest / 16 = rw (length-drop (k * 16) octets) (omega (arith, less)) in
    ap (λ (l : List ℕ). worked s (replies l)) (sym (take-append-drop (k * 16) octets))
    ∙ chunks s first rest k long
    ∙ by (worked s (replies first)) rest some g.well g.end
  where
    by : (v : Worked) (rest : List ℕ) → 0 < length rest / 16 → WellFormed v.session → End s (still_takes s) v
        → and_then v (λ t. worked t (replies rest)) ≡ record { records = v.records; halted = 5; taken = v.taken; session = v.session }
    by v rest some well (inr e) = absurd (omega (arith, e.2))
    by v rest some well (inl e) =
        let same : v.taken + 0 ≡ v.taken = omega arith in
        let none : still_takes v.session ≡ 0 = omega (arith, e.2) in
        rw (eq-eqb v.halted 0 e.0, at_once v.session rest well none some, append-nil v.records, same)
