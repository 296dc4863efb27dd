-- The three ways in which a call may end: two refusals, or worked through. Assumes nothing.
use Prim.Native.Nat.{ℕ, ◌/◌, ◌≤◌, ◌<◌}
use mathlib.Core.Path.{◌≡◌, refl, sym, ap, ◌∙◌}
use mathlib.Core.List.{List}
use mathlib.Core.Bool.{true, false}
use mathlib.Core.Logic.{◌⊎◌, inl, inr, ⊎_elim}
use native.Mathlib.Omega.{arith}
use lib.Dec.{ltb}
use lib.ListN.{length}
use borrow.Author.Tests.{ltb-true, ltb-false}
use Rattle.base_laws.specs.Ended.{Wrote, wrote}
use Rattle.base_laws.specs.Lists.{laid}
use Rattle.base_laws.proofs.Tests.{known, failed}
use Rattle.loss_session.specs.declared.LossSession.{LossSession}
use Rattle.loss_session.specs.Session.{WellFormed, well_formed}
use Rattle.loss_reading.proofs.Refusals.{sessions}
use Rattle.stored_replies.specs.Replies.{replies, worked}
use Rattle.stored_replies.specs.Recount.{RecountTold, refused_with, worked_answer, recount_into}
use Rattle.stored_replies.proofs.Turns.{ends-not_well, ends-no-room, ends-worked}

-- an answer's words, from how the call ends
pub refusal_is : {x y : Wrote RecountTold} → x ≡ y → x.answer.refusal ≡ y.answer.refusal
refusal_is e = ap (λ (t : Wrote RecountTold). t.answer.refusal) e

pub halted-is : {x y : Wrote RecountTold} → x ≡ y → x.answer.halted ≡ y.answer.halted
halted-is e = ap (λ (t : Wrote RecountTold). t.answer.halted) e

pub taken_is : {x y : Wrote RecountTold} → x ≡ y → x.answer.taken ≡ y.answer.taken
taken_is e = ap (λ (t : Wrote RecountTold). t.answer.taken) e

pub session-is : {x y : Wrote RecountTold} → x ≡ y → x.answer.session ≡ y.answer.session
session-is e = ap (λ (t : Wrote RecountTold). t.answer.session) e

-- worked through, into the buffer
abbrev pub on_into : LossSession → List ℕ → List ℕ → Wrote RecountTold
on_into s octets buffer = wrote (worked_answer (worked s (replies octets))) (laid 0 (worked s (replies octets)).records buffer)

module _ (s : LossSession) (octets buffer : List ℕ) where
  abbrev o : Wrote RecountTold
  o = recount_into s octets buffer

  abbrev count : ℕ
  count = length octets / 16

  -- how it may end, with what is known then
  pub data Way : Type 0 where
    way_2 : well_formed s ≡ false → wrote (refused_with 2 s) buffer ≡ o → Way
    way_3 : well_formed s ≡ true → length buffer / 24 < count → wrote (refused_with 3 s) buffer ≡ o → Way
    way_on : well_formed s ≡ true → count ≤ length buffer / 24 → on_into s octets buffer ≡ o → Way

  pub way : Way
  way =
      ⊎_elim
      (λ g. roomy g (known (ltb (length buffer / 24) (length octets / 16))))
      (λ g. way_2 g (ends-not_well s octets buffer g))
      (known (well_formed s))
    where
      roomy : well_formed s ≡ true
          → (ltb (length buffer / 24) (length octets / 16) ≡ true) ⊎ (ltb (length buffer / 24) (length octets / 16) ≡ false) → Way
      roomy g (inl h) = way_3 g (ltb-true _ _ h) (ends-no-room s octets buffer g (ltb-true _ _ h))
      roomy g (inr h) = way_on g (ltb-false _ _ h) (ends-worked s octets buffer (worked s (replies octets)) g (ltb-false _ _ h) refl refl)

  -- ── refusals ──

  pub two_to : Way → o.answer.refusal ≡ 2 → WellFormed s → ⊥
  two_to (way_2 g e) h w = failed (sessions.well s) g w
  two_to (way_3 g r e) h w = omega (arith, refusal_is e, h)
  two_to (way_on g r e) h w = omega (arith, refusal_is e, h)

  pub two_from : Way → (WellFormed s → ⊥) → o.answer.refusal ≡ 2
  two_from (way_2 g e) n = sym (refusal_is e)
  two_from (way_3 g r e) n = absurd (n ((sessions.well s).0 g))
  two_from (way_on g r e) n = absurd (n ((sessions.well s).0 g))

  pub three_to : Way → o.answer.refusal ≡ 3 → WellFormed s × (length buffer / 24 < count)
  three_to (way_2 g e) h = absurd (omega (arith, refusal_is e, h))
  three_to (way_3 g r e) h = ((sessions.well s).0 g, r)
  three_to (way_on g r e) h = absurd (omega (arith, refusal_is e, h))

  pub three_from : Way → WellFormed s × (length buffer / 24 < count) → o.answer.refusal ≡ 3
  three_from (way_2 g e) w = absurd (failed (sessions.well s) g w.0)
  three_from (way_3 g r e) w = sym (refusal_is e)
  three_from (way_on g r e) w = absurd (omega (arith, r, w.1))

  pub refused : Way → (n : ℕ) → (n ≡ 0 → ⊥) → o.answer.refusal ≡ n → ((n ≡ 2) ⊎ (n ≡ 3)) × (o ≡ wrote (refused_with n s) buffer)
  refused (way_2 g e) n z h = let is = refusal_is e ∙ h in (inl (sym is), sym e ∙ ap (λ (m : ℕ). wrote (refused_with m s) buffer) is)
  refused (way_3 g r e) n z h = let is = refusal_is e ∙ h in (inr (sym is), sym e ∙ ap (λ (m : ℕ). wrote (refused_with m s) buffer) is)
  refused (way_on g r e) n z h = absurd (z (sym (refusal_is e ∙ h)))

  pub not_both : Way → (o.answer.refusal ≡ 0) ⊎ (o.answer.halted ≡ 0)
  not_both (way_2 g e) = inr (sym (halted-is e))
  not_both (way_3 g r e) = inr (sym (halted-is e))
  not_both (way_on g r e) = inl (sym (refusal_is e))
