-- Each class has its line of `by_class`. Assumes nothing.
use mathlib.Core.Path.{◌≡◌, sym, ap, ◌∙◌}
use mathlib.Core.List.{List}
use Rattle.state_settings.specs.Settings.{Settings, settings_of}
use Rattle.base_stamp.specs.declared.Stamp.{Stamp}
use Rattle.receive_class.specs.declared.Side.{Side}
use Rattle.receive_class.specs.declared.Class.{Class}
use Rattle.receive_class.specs.Class.{class_of}
use Rattle.receive_class.proofs.Classes.{classes}
use Prim.Native.Nat.{ℕ}
use Rattle.receive_handle.specs.declared.Decision.TheVariants.{Changes}
use Rattle.receive_decide.specs.Decide.{by_class, decide_of}
use Rattle.receive_decide.proofs.decide.Goals as goal

by-class : (t : Settings) (side : Side) (f : List ℕ) (receive : Stamp) (k : Class) → class_of t.level side f ≡ k
    → decide_of t side f receive ≡ by_class t side f receive k
unfolding decide_of
by-class t side f receive k e = rw e

pub below-requires : goal.below-requires
below-requires c = let a = c.args in
    (classes _ a.side a.frame.now).below_long (sym c.class_of.ensures ∙ c.in-Below.is)

pub own_level-requires : goal.own_level-requires
own_level-requires c = let a = c.args in
    let own = sym c.class_of.ensures ∙ c.in-Own.is in
    record { behind_head_in_bounds = (classes _ a.side a.frame.now).own_long own; frame_value = (classes _ a.side a.frame.now).own_oam own }

pub returns-in-Service : goal.returns-in-Service
unfolding by_class
returns-in-Service c = let a = c.args in
    let t = settings_of a.set.now a.names.now a.ids.now in
    ap Changes c.count.ensures
    ∙ sym (by-class t a.side a.frame.now a.receive _ (sym c.class_of.ensures
    ∙ c.in-Service.is))

pub returns-in-Short : goal.returns-in-Short
unfolding by_class
returns-in-Short c = let a = c.args in
    let t = settings_of a.set.now a.names.now a.ids.now in
    sym (by-class t a.side a.frame.now a.receive _ (sym c.class_of.ensures
    ∙ c.in-Short.is))

pub returns-in-Above : goal.returns-in-Above
unfolding by_class
returns-in-Above c = let a = c.args in
    let t = settings_of a.set.now a.names.now a.ids.now in
    sym (by-class t a.side a.frame.now a.receive _ (sym c.class_of.ensures
    ∙ c.in-Above.is))

pub returns-in-Inside : goal.returns-in-Inside
unfolding by_class
returns-in-Inside c = let a = c.args in
    let t = settings_of a.set.now a.names.now a.ids.now in
    sym (by-class t a.side a.frame.now a.receive _ (sym c.class_of.ensures
    ∙ c.in-Inside.is))

pub returns-in-Below : goal.returns-in-Below
unfolding by_class
returns-in-Below c = let a = c.args in
    let t = settings_of a.set.now a.names.now a.ids.now in
    c.below.ensures ∙ sym
    (by-class t a.side a.frame.now a.receive _ (sym c.class_of.ensures
    ∙ c.in-Below.is))

pub returns-in-Own : goal.returns-in-Own
unfolding by_class
returns-in-Own c = let a = c.args in
    let t = settings_of a.set.now a.names.now a.ids.now in
    c.own_level.ensures
    ∙ sym (by-class t a.side a.frame.now a.receive _ (sym c.class_of.ensures
    ∙ c.in-Own.is))
