-- Our box follows the paper where it measures loss or delay: a law for each sentence of rules 7 and 8. Assumes nothing.
use Prim.Native.Nat.{◌<◌}
use mathlib.Core.Path.{◌≡◌, ap, ◌∙◌}
use mathlib.Core.Bool.{true}
use native.Mathlib.Omega.{arith}
use lib.IntN.{pos}
use borrow.Author.Tests.{eq-eqb, ne_eqb}
use Rattle.std.specs.Prelude.{Result}
use Rattle.base_laws.specs.Tests.{choose}
use Rattle.loss_session.specs.Session as Session
use Rattle.loss_reading.specs.Reading.{after_reading, loss_on}
use Rattle.loss_reading.proofs.Refusals as Loss
use Rattle.receive_delay.specs.declared.NoDelay.{NoDelay}
use Rattle.receive_delay.specs.declared.DelayValues.{DelayValues}
use Rattle.loss_session.specs.Session.{most_intervals}
use Rattle.state_view.specs.State.{State}
use Rattle.state_view.specs.Changed.{with_session}
use Rattle.state_view.specs.WellFormed.{well_formed}
use Rattle.frame_opcodes.specs.Opcodes.{rule_of}
use Rattle.frame_head.specs.Head.{flags_of}
use Rattle.receive_change.specs.Change.{answer_of, taken, applied}
use Rattle.receive_handle.specs.declared.Decision.TheVariants.{Changes, Delays}
use Rattle.receive_handle.specs.Handle.{reading_in, handle_of}
use Rattle.receive_carry_out.specs.CarryOut.{delay_answer, carried_out}
use Rattle.paper_said.specs.Calls as call
use Rattle.paper_said.specs.Calls.{Arrival, leaves, refused}
use Rattle.paper_said.specs.Cases.{pdu}
use Rattle.paper_said.specs.Made as made
use Rattle.paper_said.specs.Taken as taken
use Rattle.paper_said.specs.Words.{frame_answer}
use Rattle.paper_said.specs.Ours.{ours}
use Rattle.paper_said.proofs.Frames.{decided, left, handles}
use Rattle.paper_said.proofs.Delays as Delays
use Rattle.paper_said.proofs.Codes as Codes

module _ (s : State) (a : Arrival) where
  -- ── rule 7 ──

  counts : (l : taken.LossReply s a) → ours s (call.frame a) ≡ decided s a (Changes (reading_in (pdu a)))
  unfolding handle_of rule_of choose
  counts l = left s a l.own _ (handles s a l.own l.sound 42 (Codes.lmr (flags_of (pdu a)) l.lmr))

  session-well : taken.LossReply s a → Session.well_formed s.session ≡ true
  session-well l = ((Loss.sessions).well s.session).1 l.own.oam.heeded.well.session

  pub first-reading : taken.LossReply s a → s.session.kept ≡ 0
      → ours s (call.frame a) ≡ leaves (call.loss (pos 0) (pos 0)) (with_session (made.kept_first s.session (made.reading s a)) s)
      a.buffer
  unfolding carried_out applied after_reading choose answer_of
  first-reading l k = counts l ∙ rw (session-well l, k)

  pub later-reading : taken.LossReply s a → s.session.kept ≡ 1 → s.session.intervals < most_intervals
      → ours s (call.frame a)
      ≡ leaves (call.loss (loss_on Session.near s.session.last (made.reading s a))
      (loss_on Session.far s.session.last (made.reading s a))) (with_session (made.measured s.session (made.reading s a)) s)
      a.buffer
  unfolding carried_out applied after_reading choose answer_of
  later-reading l k n =
      counts l ∙ rw (
        session-well l,
        ne_eqb s.session.kept 0 (λ z. omega arith),
        ne_eqb s.session.intervals most_intervals (λ z. omega arith),
      )

  pub full : taken.LossReply s a → s.session.kept ≡ 1 → s.session.intervals ≡ most_intervals
      → ours s (call.frame a) ≡ leaves (refused 5) s a.buffer
  unfolding carried_out applied after_reading choose answer_of
  full l k n =
      counts l ∙ rw (session-well l, ne_eqb s.session.kept 0 (λ z. omega arith), eq-eqb s.session.intervals most_intervals n)

  -- ── rule 8 ──

  pub delay-left : (l : taken.DelayReply s a) (x : Result DelayValues NoDelay) → Delays.measured a ≡ x
      → ours s (call.frame a) ≡ leaves (frame_answer (delay_answer x)) s a.buffer
  unfolding handle_of rule_of choose carried_out
  delay-left l x e = left s a l.own _ (handles s a l.own l.sound 46 (Codes.dmr (flags_of (pdu a)) l.dmr) ∙ ap Delays e)
