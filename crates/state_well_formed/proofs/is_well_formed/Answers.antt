-- `state_well_formed::is_well_formed` meets its contract: five groups of rules, one behind the other.
use mathlib.Core.Path.{◌≡◌, sym, ap, ◌∙◌}
use mathlib.Core.Bool.{true}
use Rattle.loss_session.specs.Session as Session
use Rattle.base_period.specs.Periods.{ticks_of}
use Rattle.state_settings.specs.Valid.{valid}
use Rattle.state_view.specs.State.{State, state_lent}
use Rattle.state_view.specs.WellFormed.{own_most, timers_good, next_good, slots_good, well_formed}
use Rattle.base_laws.proofs.Tests.{passes, stops}
use Rattle.state_well_formed.proofs.is_well_formed.Goals as goal

-- ── what each test says of the state that came in ──

-- ── past a test it held; the first that fails decides ──

pub returns-then-not-is_valid : goal.returns-then-not-is_valid
unfolding well_formed
returns-then-not-is_valid c =
    let state : State = state_lent c.args.state in
    let valid-says : valid state.settings ≡ c.is_valid.result = sym c.is_valid.ensures in
    stops _ _ (valid-says ∙ c.if-not-is_valid.true)

pub returns-then-not-timers_good : goal.returns-then-not-timers_good
unfolding well_formed
returns-then-not-timers_good c =
    let state : State = state_lent c.args.state in
    let timers-say : timers_good state (own_most state) ≡ c.timers_good.result = ap (timers_good state) (sym c.hold_of-hold.ensures) ∙ sym c.timers_good.ensures in
    let valid-says : valid state.settings ≡ c.is_valid.result = sym c.is_valid.ensures in
    let valid-held : valid state.settings ≡ true = valid-says ∙ c.if-not-is_valid.false in
    passes valid-held (stops _ _ (timers-say ∙ c.if-not-timers_good.true))

pub returns-then-not-next_good : goal.returns-then-not-next_good
unfolding well_formed
returns-then-not-next_good c =
    let state : State = state_lent c.args.state in
    let next-says : next_good state.next (ticks_of state.settings.period) ≡ c.next_good.result = ap (next_good state.next) (sym c.ticks_of.ensures) ∙ sym c.next_good.ensures in
    let valid-says : valid state.settings ≡ c.is_valid.result = sym c.is_valid.ensures in
    let valid-held : valid state.settings ≡ true = valid-says ∙ c.if-not-is_valid.false in
    let timers-say : timers_good state (own_most state) ≡ c.timers_good.result = ap (timers_good state) (sym c.hold_of-hold.ensures) ∙ sym c.timers_good.ensures in
    let timers-held : timers_good state (own_most state) ≡ true = timers-say ∙ c.if-not-timers_good.false in
    passes valid-held (passes timers-held (stops _ _ (next-says ∙ c.if-not-next_good.true)))

pub returns-then-not-slots_good : goal.returns-then-not-slots_good
unfolding well_formed
returns-then-not-slots_good c =
    let state : State = state_lent c.args.state in
    let slots-say : (let s = state in slots_good s.timers s.rdi s.settings.count (own_most s)) ≡ c.slots_good.result = let s = state in
    ap (slots_good s.timers s.rdi s.settings.count) (sym c.hold_of-hold.ensures)
    ∙ sym c.slots_good.ensures in
    let valid-says : valid state.settings ≡ c.is_valid.result = sym c.is_valid.ensures in
    let valid-held : valid state.settings ≡ true = valid-says ∙ c.if-not-is_valid.false in
    let timers-say : timers_good state (own_most state) ≡ c.timers_good.result = ap (timers_good state) (sym c.hold_of-hold.ensures) ∙ sym c.timers_good.ensures in
    let timers-held : timers_good state (own_most state) ≡ true = timers-say ∙ c.if-not-timers_good.false in
    let next-says : next_good state.next (ticks_of state.settings.period) ≡ c.next_good.result = ap (next_good state.next) (sym c.ticks_of.ensures) ∙ sym c.next_good.ensures in
    let next-held : next_good state.next (ticks_of state.settings.period) ≡ true = next-says ∙ c.if-not-next_good.false in
    passes valid-held (passes timers-held (passes next-held
    (stops _ _ (slots-say ∙ c.if-not-slots_good.true))))

pub returns : goal.returns
unfolding well_formed
returns c =
    let state : State = state_lent c.args.state in
    let valid-says : valid state.settings ≡ c.is_valid.result = sym c.is_valid.ensures in
    let valid-held : valid state.settings ≡ true = valid-says ∙ c.if-not-is_valid.false in
    let timers-say : timers_good state (own_most state) ≡ c.timers_good.result = ap (timers_good state) (sym c.hold_of-hold.ensures) ∙ sym c.timers_good.ensures in
    let timers-held : timers_good state (own_most state) ≡ true = timers-say ∙ c.if-not-timers_good.false in
    let next-says : next_good state.next (ticks_of state.settings.period) ≡ c.next_good.result = ap (next_good state.next) (sym c.ticks_of.ensures) ∙ sym c.next_good.ensures in
    let next-held : next_good state.next (ticks_of state.settings.period) ≡ true = next-says ∙ c.if-not-next_good.false in
    let slots-say : (let s = state in slots_good s.timers s.rdi s.settings.count (own_most s)) ≡ c.slots_good.result = let s = state in
    ap (slots_good s.timers s.rdi s.settings.count) (sym c.hold_of-hold.ensures)
    ∙ sym c.slots_good.ensures in
    let slots-held : (let s = state in slots_good s.timers s.rdi s.settings.count (own_most s)) ≡ true = slots-say ∙ c.if-not-slots_good.false in
    passes valid-held (passes timers-held (passes next-held (passes slots-held
    (c.well_formed-2.ensures ∙ ap Session.well_formed c.session_of.ensures))))
