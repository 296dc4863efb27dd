-- `loss_step::take_reading` meets its contract: at each return the tests that led there pick the case of `after_reading`.
use mathlib.Core.Path.{◌≡◌, sym, ap, ◌∙◌}
use mathlib.Core.Bool.{true}
use native.Mathlib.Omega.{arith}
use borrow.Author.Tests.{not-true, not-false}
use Rattle.loss_session.specs.declared.Readings.{Readings}
use Rattle.loss_session.specs.declared.LossSession.{LossSession}
use Rattle.loss_reading.specs.declared.Updated.{Updated}
use Rattle.loss_session.specs.Session.{well_formed}
use Rattle.loss_reading.specs.Reading.{after_reading}
use Rattle.loss_reading.specs.Told.{loss_told, loss_numbers}
use Rattle.loss_session.proofs.Laws.{well}
use Rattle.loss_reading.proofs.Laws.{reading-bad, reading-first, reading-full, reading-measured}
use Rattle.loss_reading.proofs.Numbers.{told-numbers}
use Rattle.loss_step.proofs.take_reading.Goals as goal

-- an outcome that is the definition's tells the paper's numbers

kept : (s : LossSession) (r : Readings) (u : Updated) → u ≡ after_reading s r → (u ≡ after_reading s r)
    × (loss_told u.answer ≡ loss_numbers s r)
kept s r u e = (e, ap (λ (v : Updated). loss_told v.answer) e ∙ told-numbers s r)

-- past the first test

pub returns-then-not-well_formed : goal.returns-then-not-well_formed
returns-then-not-well_formed c = kept _ _ _ (sym (reading-bad _ _ (sym c.well_formed-2.ensures ∙ c.if-not-well_formed.true)))

pub returns-then-s-eq0 : goal.returns-then-s-eq0
returns-then-s-eq0 c =
    let good : well_formed c.args.s ≡ true = sym c.well_formed-2.ensures ∙ c.if-not-well_formed.false in
    kept _ _ _ (sym (reading-first _ _ good c.if-s-eq0.true))

pub returns-then-s-eq-MOST_INTERVALS : goal.returns-then-s-eq-MOST_INTERVALS
returns-then-s-eq-MOST_INTERVALS c =
    let good : well_formed c.args.s ≡ true = sym c.well_formed-2.ensures ∙ c.if-not-well_formed.false in
    let d = c in
    kept _ _ _ (sym (reading-full _ _ good d.if-s-eq0.false c.if-s-eq-MOST_INTERVALS.true))

pub measured-requires : goal.measured-requires
measured-requires c =
    let good : well_formed c.args.s ≡ true = sym c.well_formed-2.ensures ∙ c.if-not-well_formed.false in
    let w = (well _).0 good in
    record { well_formed = w; intervals_lt_most_intervals = omega (arith, w.few, c.if-s-eq-MOST_INTERVALS.false) }

pub returns : goal.returns
returns c =
    let good : well_formed c.args.s ≡ true = sym c.well_formed-2.ensures ∙ c.if-not-well_formed.false in
    let d = c in
    kept _ _ _ (c.measured.ensures ∙ sym (reading-measured _ _ good d.if-s-eq0.false c.if-s-eq-MOST_INTERVALS.false))
