-- A reading that is refused leaves the session as it was, so that it need not be stored. Assumes nothing.
use mathlib.Core.Path.{◌≡◌, sym, ap, ◌∙◌}
use Rattle.loss_session.specs.declared.Readings.{Readings}
use Rattle.loss_session.specs.declared.LossSession.{LossSession}
use Rattle.loss_reading.specs.declared.Updated.{Updated}
use Rattle.loss_reading.specs.declared.LossTold.{LossTold}
use Rattle.loss_reading.specs.Reading.{after_reading}
use Rattle.loss_reading.specs.Told.{loss_told, loss_numbers}
use Rattle.loss_reading.proofs.Laws.{Case, bad, begins, stops, measures, cases}
use Rattle.loss_reading.proofs.Numbers.{told-numbers}

module _ (s : LossSession) (r : Readings) where
  told : (u : Updated) → after_reading s r ≡ u → (loss_numbers s r).refusal ≡ (loss_told u.answer).refusal
  told u e = ap (λ (t : LossTold). t.refusal) (sym (told-numbers s r) ∙ ap (λ (v : Updated). loss_told v.answer) e)

  by_case : Case s r → ((loss_numbers s r).refusal ≡ 0 → ⊥) → (after_reading s r).session ≡ s
  unfolding loss_told
  by_case (bad w e) n = ap (λ (u : Updated). u.session) e
  by_case (begins w k e) n = absurd (n (told _ e))
  by_case (stops w k i e) n = ap (λ (u : Updated). u.session) e
  by_case (measures w k i e) n = absurd (n (told _ e))

  pub still : ((loss_numbers s r).refusal ≡ 0 → ⊥) → (after_reading s r).session ≡ s
  still = by_case (cases s r)
