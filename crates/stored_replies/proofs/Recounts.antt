-- The statement of specs/Recounts.antt: what is said of halts, and all of it together. Assumes nothing.
use Prim.Native.Nat.{ℕ, ◌*◌, ◌/◌, ◌≤◌, ◌<◌}
use mathlib.Core.Path.{◌≡◌, refl, sym, ap, ◌∙◌}
use mathlib.Core.List.{List}
use mathlib.Core.Bool.{true}
use mathlib.Core.Logic.{◌⊎◌, inl, inr, ⊎_elim}
use native.Mathlib.Omega.{arith}
use lib.ListN.{length, take}
use lib.Seq.{length-take-le}
use Rattle.base_laws.specs.Ended.{wrote}
use Rattle.base_laws.specs.Lists.{laid}
use Rattle.loss_session.specs.declared.LossSession.{LossSession}
use Rattle.loss_session.specs.Session.{WellFormed, well_formed, most_intervals}
use Rattle.loss_reading.proofs.Refusals.{sessions}
use Rattle.stored_replies.specs.Replies.{replies, Worked, worked}
use Rattle.stored_replies.specs.Recount.{RecountTold, worked_answer, recount_into, still_takes}
use Rattle.stored_replies.specs.Recounts.{answer_to, but_halted, Recounts}
use Rattle.stored_replies.proofs.Turns.{ends-worked}
use Rattle.stored_replies.proofs.Chunks.{sized, replies-long, chunks}
use Rattle.stored_replies.proofs.Halts.{Gone, gone, used-up, fore}
use Rattle.stored_replies.proofs.Ends.{on_into, Way, way_2, way_3, way_on, way}
use Rattle.stored_replies.proofs.Ends.{refusal_is, halted-is, taken_is, session-is}
use Rattle.stored_replies.proofs.Ends.{two_to, two_from, three_to, three_from, refused, not_both}

module _ (s : LossSession) (octets buffer : List ℕ) where
  abbrev a : RecountTold
  a = answer_to s octets buffer

  abbrev count : ℕ
  count = length octets / 16

  abbrev Ways : Type 0
  Ways = Way s octets buffer

  -- the replies worked through, for all that is said of a halt
  through : well_formed s ≡ true → Gone s count (worked s (replies octets))
  through g = rw (replies-long count octets) at (gone (replies octets) s ((sessions.well s).0 g))

  or_0 : Ways → (a.halted ≡ 0) ⊎ (a.halted ≡ 5)
  or_0 (way_2 g e) = inl (sym (halted-is e))
  or_0 (way_3 g r e) = inl (sym (halted-is e))
  or_0 (way_on g r e) = ⊎_elim (λ x. inl (sym (halted-is e) ∙ x.0)) (λ x. inr (sym (halted-is e) ∙ x.0)) (through g).end

  five_to : Ways → a.halted ≡ 5 → (a.refusal ≡ 0) × (a.taken < count)
  five_to (way_2 g e) h = absurd (omega (arith, halted-is e, h))
  five_to (way_3 g r e) h = absurd (omega (arith, halted-is e, h))
  five_to (way_on g r e) h = (
    sym (refusal_is e),
    ⊎_elim (λ x. absurd (omega (arith, halted-is e, h, x.0))) (λ x. omega (arith, taken_is e, x.1, x.2)) (through g).end,
  )

  five_from : Ways → (a.refusal ≡ 0) × (a.taken < count) → a.halted ≡ 5
  five_from (way_2 g e) h = absurd (omega (arith, refusal_is e, h.0))
  five_from (way_3 g r e) h = absurd (omega (arith, refusal_is e, h.0))
  five_from (way_on g r e) h = ⊎_elim (λ x. absurd (omega (arith, taken_is e, h.1, x.1))) (λ x. sym (halted-is e) ∙ x.0) (through g).end

  too_many-from : Ways → (a.refusal ≡ 0) × (still_takes s < count) → a.halted ≡ 5
  too_many-from (way_2 g e) h = absurd (omega (arith, refusal_is e, h.0))
  too_many-from (way_3 g r e) h = absurd (omega (arith, refusal_is e, h.0))
  too_many-from (way_on g r e) h = ⊎_elim (λ x. absurd (omega (arith, h.1, x.2))) (λ x. sym (halted-is e) ∙ x.0) (through g).end

  -- what is known where it halted
  halt : Ways → a.halted ≡ 5
      → (well_formed s ≡ true) × (count ≤ length buffer / 24) × (on_into s octets buffer ≡ recount_into s octets buffer)
      × (still_takes s < count) × (a.taken ≡ still_takes s) × (still_takes a.session ≡ 0)
  halt (way_2 g e) h = absurd (omega (arith, halted-is e, h))
  halt (way_3 g r e) h = absurd (omega (arith, halted-is e, h))
  halt (way_on g r e) h =
      ⊎_elim
      (λ x. absurd (omega (arith, halted-is e, h, x.0)))
      (λ x. (g, r, e, x.2, sym (taken_is e) ∙ x.1, rw (session-is e) at x.3))
      (through g).end

  too_many-to : Ways → a.halted ≡ 5 → (a.refusal ≡ 0) × (still_takes s < count)
  too_many-to w h = ((five_to w h).0, (halt w h).3)

  stays : Ways → WellFormed s → WellFormed a.session
  stays (way_2 g e) w = rw (session-is e) at w
  stays (way_3 g r e) w = rw (session-is e) at w
  stays (way_on g r e) w = rw (session-is e) at (through g).well

  none_left : Ways → a.halted ≡ 5
      → (a.taken ≡ still_takes s) × (a.session.kept ≡ 1) × (a.session.intervals ≡ most_intervals)
  none_left w h =
      let k = halt w h in
      let u = used-up a.session (stays w ((sessions.well s).0 k.0)) k.5 in
      (k.4, u.0, u.1)

-- the records before a halt fit where all were to fit
before : (s : LossSession) (octets buffer : List ℕ) → (answer_to s octets buffer).halted ≡ 5
    → recount_into s octets buffer ≡ but_halted (recount_into s (take ((answer_to s octets buffer).taken * 16) octets) buffer)
before s octets buffer h =
    let k = halt s octets buffer (way s octets buffer) h in
    let first = take (still_takes s * 16) octets in
    let whole : length first ≡ still_takes s * 16 = length-take-le (still_takes s * 16) octets (omega (arith, k.3)) in
    let long : length first / 16 ≡ still_takes s = omega (arith, whole) in
    let room : length first / 16 ≤ length buffer / 24 = omega (arith, long, k.1, k.3) in
    let w = worked s (replies first) in
    sym k.2
    ∙ ap (λ (v : Worked). wrote (worked_answer v) (laid 0 v.records buffer)) (fore s octets ((sessions.well s).0 k.0) k.3)
    ∙ ap but_halted (ends-worked s first buffer w k.0 room refl refl)
    ∙ ap (λ (n : ℕ). but_halted (recount_into s (take (n * 16) octets) buffer)) (sym k.4)

pub recounts : Recounts
recounts = record {
  long = λ s octets. (sized (replies octets) s).long;
  most = λ s octets. omega (arith, (sized (replies octets) s).most, replies-long (length octets / 16) octets);
  chunks = chunks;
  refuses_2 = λ s octets buffer. (two_to s octets buffer (way s octets buffer), two_from s octets buffer (way s octets buffer));
  refuses_3 = λ s octets buffer. (three_to s octets buffer (way s octets buffer), three_from s octets buffer (way s octets buffer));
  refused = λ s octets buffer. refused s octets buffer (way s octets buffer);
  halts_5 = λ s octets buffer. (five_to s octets buffer (way s octets buffer), five_from s octets buffer (way s octets buffer));
  too_many = λ s octets buffer. (too_many-to s octets buffer (way s octets buffer), too_many-from s octets buffer (way s octets buffer));
  or_0 = λ s octets buffer. or_0 s octets buffer (way s octets buffer);
  not_both = λ s octets buffer. not_both s octets buffer (way s octets buffer);
  none_left = λ s octets buffer. none_left s octets buffer (way s octets buffer);
  before = before;
  stays = λ s octets buffer. stays s octets buffer (way s octets buffer);
}
