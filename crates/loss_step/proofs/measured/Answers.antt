-- `loss_step::measured` meets its contract: both losses, and both totals carried on, which the bound of a well-formed session keeps in 64
-- bits.
use Prim.Native.Nat.{◌+◌}
use mathlib.Core.Path.{◌≡◌, refl, ap, ◌∙◌}
use lib.IntN.{ℤ, ◌+ℤ◌}
use mir.Syntax.{w64}
use mir.Val.{SFits, to_z, of_z}
use borrow.Author.Rules.{rules}
use Rattle.std.specs.Prelude.{Ok, Some}
use Rattle.loss_reading.specs.Losses.{losses_of}
use Rattle.base_laws.proofs.Stored.{back}
use Rattle.loss_session.specs.declared.LossSession.{LossSession}
use Rattle.loss_session.specs.declared.Readings.{Readings}
use Rattle.loss_session.specs.Session.{near, far}
use Rattle.loss_reading.specs.Reading.{loss_on, measured_of}
use Rattle.loss_step.proofs.Totals.{plus_fits}
use Rattle.loss_step.proofs.measured.Goals as goal

pub plus-requires : goal.plus-requires
plus-requires c =
    let near_fits : SFits w64 c.args.s.near = search rules in
    let near-loss-fits : SFits w64 c.loss_between-near.result = search rules in
    let d = c in
    let o = c in
    plus_fits o.args.s.near d.loss_between-near.result o.args.s.intervals near_fits near-loss-fits o.requires.intervals_lt_most_intervals
    (o.requires.well_formed.total near) d.loss_between-near.ensures.1

pub plus-requires-2 : goal.plus-requires-2
plus-requires-2 c =
    let far-fits : SFits w64 c.args.s.far = search rules in
    let far-loss-fits : SFits w64 c.loss_between-far.result = search rules in
    let d = c in
    let o = c in
    plus_fits o.args.s.far d.loss_between-far.result o.args.s.intervals far-fits far-loss-fits o.requires.intervals_lt_most_intervals
    (o.requires.well_formed.total far) d.loss_between-far.ensures.1

-- both losses and both totals make the outcome of an interval

made : (s : LossSession) (r : Readings) (a b n f : ℤ) → a ≡ loss_on near s.last r → b ≡ loss_on far s.last r → n ≡ s.near +ℤ a
    → f ≡ s.far +ℤ b
    → record { answer = Ok (Some (losses_of a b)); session = record { kept = s.kept; intervals = s.intervals + 1; last = r; near = n; far = f } }
    ≡ measured_of s r
made s r a b n f ea eb en ef = rw (en, ef, ea, eb) refl

pub returns : goal.returns
returns c =
    let near_fits : SFits w64 c.args.s.near = search rules in
    let far-fits : SFits w64 c.args.s.far = search rules in
    let near-loss-fits : SFits w64 c.loss_between-near.result = search rules in
    let far-loss-fits : SFits w64 c.loss_between-far.result = search rules in
    let p = c in
    let d = c in
    let o = c in
    let nearly = back d.loss_between-near.result near-loss-fits in
    let farther = back d.loss_between-far.result far-loss-fits in
    made o.args.s o.args.r _ _ _ _ (nearly ∙ d.loss_between-near.ensures.0) (farther ∙ d.loss_between-far.ensures.0)
    (back p.plus.result (search rules) ∙ p.plus.ensures ∙ ap (λ (z : ℤ). z +ℤ to_z w64 (of_z w64 d.loss_between-near.result)) (back o.args.s.near near_fits))
    (back c.plus-2.result (search rules) ∙ c.plus-2.ensures ∙ ap (λ (z : ℤ). z +ℤ to_z w64 (of_z w64 d.loss_between-far.result)) (back o.args.s.far far-fits))
