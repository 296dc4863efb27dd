-- `receive_delay::measure_delay` meets its contract: the tests that led to a return pick the case, the sizes of the differences rule D8
-- out, and a
-- signed number that was stored and read again is what it was.
use mathlib.Core.Path.{◌≡◌, sym, ap, ap₂, ◌∙◌}
use mathlib.Core.Bool.{true}
use Prim.Native.Nat.{◌≤◌}
use lib.IntN.{ℤ, nat_abs, ◌-ℤ◌}
use mir.Syntax.{w64}
use mir.Val.{SFits}
use borrow.Author.Rules.{rules}
use Rattle.std.specs.Prelude.{Result, Ok}
use Rattle.base_laws.proofs.Stored.{back, fits-size}
use Rattle.base_stamp.specs.declared.Stamp.{Stamp}
use Rattle.receive_delay.specs.declared.NoDelay.{NoDelay}
use Rattle.receive_delay.specs.declared.DelayValues.{DelayValues}
use Rattle.receive_delay.specs.declared.DelayValues.TheVariants.{TwoWay, AllWays}
use Rattle.receive_delay.specs.Used.{usable}
use Rattle.receive_delay.specs.Delays.{delays_of}
use Rattle.receive_delay.specs.Told.{delay_told, delay_numbers}
use Rattle.receive_delay.proofs.Laws.{furthest, stay_size, delays-bad, delays-two, delays-all}
use Rattle.receive_delay.proofs.Numbers.{told-numbers}
use Rattle.receive_delay.proofs.measure_delay.Goals as goal

-- an answer that is the definition's tells the paper's numbers

kept : (txf rxf txb here : Stamp) (a : Result DelayValues NoDelay) → a ≡ delays_of txf rxf txb here → (a ≡ delays_of txf rxf txb here)
    × (delay_told a ≡ delay_numbers txf rxf txb here)
kept txf rxf txb here a e = (e, ap delay_told e ∙ told-numbers txf rxf txb here)

-- a difference as the definition has it is as small as the code's

bound : {x y : ℤ} → (x ≡ y) × (nat_abs x ≤ furthest) → nat_abs y ≤ furthest
bound h = rw h.0 at h.1

all_ways : {a b c d e f : ℤ} → a ≡ b → c ≡ d → e ≡ f → ◌≡◌ {A = Result DelayValues NoDelay} (Ok (AllWays a c e)) (Ok (AllWays b d f))
all_ways p q r = rw (p, q, r)

pub returns-then-not-stamps_good : goal.returns-then-not-stamps_good
returns-then-not-stamps_good c = kept _ _ _ _ _ (sym (delays-bad _ _ _ _ (sym c.stamps_good.ensures ∙ c.if-not-stamps_good.true)))

pub returns-then-not-pair : goal.returns-then-not-pair
returns-then-not-pair c =
    let used : usable c.args.txf c.args.rxf c.args.txb c.args.here ≡ true = sym c.stamps_good.ensures ∙ c.if-not-stamps_good.false in
    let all-fits : SFits w64 c.difference-all.result = search rules in
    let d = c in
    let e = back d.difference-all.result all-fits ∙ d.difference-all.ensures.0 in
    kept _ _ _ _ _
    (ap (λ (t : ℤ). Ok (TwoWay t)) e ∙ sym (delays-two _ _ _ _ used (bound d.difference-all.ensures) (sym c.pair.ensures
    ∙ c.if-not-pair.true)))

pub less-requires : goal.less-requires
less-requires c =
    let all-fits : SFits w64 c.difference-all.result = search rules in
    let stay-fits : SFits w64 c.difference.result = search rules in
    let d = c in
    rw (back d.difference-all.result all-fits, back c.difference.result stay-fits)
    (fits-size (d.difference-all.result -ℤ c.difference.result)
    (stay_size d.difference-all.result c.difference.result d.difference-all.ensures.1 c.difference.ensures.1))

pub returns : goal.returns
returns c =
    let used : usable c.args.txf c.args.rxf c.args.txb c.args.here ≡ true = sym c.stamps_good.ensures ∙ c.if-not-stamps_good.false in
    let all-fits : SFits w64 c.difference-all.result = search rules in
    let stay-fits : SFits w64 c.difference.result = search rules in
    let two_fits : SFits w64 c.less.result = search rules in
    let far-fits : SFits w64 c.difference-2.result = search rules in
    let near_fits : SFits w64 c.difference-3.result = search rules in
    let l = c in
    let s = l in
    let d = c in
    let two = back l.less.result two_fits
    ∙ l.less.ensures
    ∙ ap₂ (λ (x y : ℤ). x -ℤ y) (back d.difference-all.result all-fits
    ∙ d.difference-all.ensures.0) (back s.difference.result stay-fits ∙ s.difference.ensures.0) in
    let far = back c.difference-2.result far-fits ∙ c.difference-2.ensures.0 in
    let near = back c.difference-3.result near_fits ∙ c.difference-3.ensures.0 in
    kept _ _ _ _ _
    (all_ways two far near
    ∙ sym (delays-all _ _ _ _ used (bound d.difference-all.ensures) (sym c.pair.ensures
    ∙ s.if-not-pair.false)
    (bound s.difference.ensures) (bound c.difference-2.ensures) (bound c.difference-3.ensures)))
