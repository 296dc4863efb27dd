-- The statements of specs/Lent.antt. Assumes nothing.
use mathlib.Core.Path.{◌≡◌, refl, sym, ap, ap₂, ◌∙◌}
use mathlib.Core.List.{List, ◌∷◌, map}
use Rattle.base_clock.specs.Run.{after}
use Rattle.loss_session.specs.declared.Readings.{Readings}
use Rattle.loss_session.specs.declared.LossSession.{LossSession}
use Rattle.loss_reading.specs.declared.LossTold.{LossTold}
use Rattle.loss_reading.specs.Reading.{after_reading}
use Rattle.loss_reading.specs.Told.{loss_told}
use Rattle.loss_reading.proofs.Numbers.{told-numbers}
use Rattle.loss_account.specs.Demand3.{answers, leaves}
use Rattle.loss_lent.specs.Lent.{Lent, LentRun, none, more, Lends}

one : (s : LossSession) (r : Readings) (t t' : LossTold) (e e' : LossSession) → Lent s r t e → Lent s r t' e' → (t ≡ t') × (e ≡ e')
one s r t t' e e' p q = (p.0 ∙ sym q.0, p.1 ∙ sym q.1)

pub runs : {s e : LossSession} {rs : List Readings} {ts : List LossTold} → LentRun Lent s rs ts e
    → (ts ≡ map loss_told (answers after_reading s rs)) × (e ≡ leaves after_reading s rs)
unfolding answers after
runs (none s) = (refl, refl)
runs (more {s = s} {m = m} {r = r} {rs = rs} p q) =
    let rest = runs q in (
      ap₂ ◌∷◌ (p.0 ∙ sym (told-numbers s r)) (rest.0 ∙ ap (λ (n : LossSession). map loss_told (answers after_reading n rs)) p.1),
      rest.1 ∙ ap (λ (n : LossSession). leaves after_reading n rs) p.1,
    )

pub lends : Lends
lends = record { one = one; runs = λ s rs ts e p. runs p }
