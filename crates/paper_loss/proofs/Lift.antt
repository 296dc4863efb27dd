-- A run of a box that follows the paper is a run of the loss session over the good replies' readings, and its counts are those of the
-- frames.
-- Assumes nothing.
use Prim.Native.Nat.{ℕ, ◌+◌, ◌%◌, ◌^◌}
use mathlib.Core.Path.{◌≡◌, refl, sym, ap, ap₂, ◌∙◌}
use mathlib.Core.List.{List, ◌∷◌, map}
use native.Mathlib.Nat.{mod-add-mod}
use Rattle.base_clock.specs.Run.{after}
use Rattle.loss_session.specs.declared.Readings.{Readings}
use Rattle.loss_session.specs.declared.LossSession.{LossSession}
use Rattle.loss_session.specs.Session.{readings}
use Rattle.loss_reading.specs.Reading.{after_reading}
use Rattle.loss_account.specs.Demand3 as account
use Rattle.state_view.specs.State.{State}
use Rattle.state_view.specs.WellFormed.{WellFormed}
use Rattle.paper_said.specs.Calls.{Call, Answer, OnWire, NoSetting, Box}
use Rattle.paper_said.specs.Ours.{Follows}
use Rattle.paper_loss.specs.Runs.{run, answers, Each, NoClear, Event, reply, received, sent, other, Is, Events, none, next}
use Rattle.paper_loss.specs.Replies.{replies_in, to_replies}
use Rattle.paper_loss.proofs.Same.{is-to}
use Rattle.paper_loss.proofs.Step.{told_of, Step, step, stays}

-- a state of the run that started in s
pub record Within (s y : State) : Type 0 where
  pub start : WellFormed s
  pub well : WellFormed y
  pub settings : y.settings ≡ s.settings

module _ (B : Box) (F : Follows B) (s : State) where
  -- one call in a state of the run
  module _ (y : State) (c : Call) (e : Event) (w : Within s y) (u : OnWire c) (k : NoSetting c) (i : Is s c e) where
    pub here : Step y c e (B y c)
    here = step B F y c e u k (is-to s y c e w.start w.well (sym w.settings) i)

    pub onward : Within s (B y c).state
    onward = record { start = w.start; well = stays B F y c u w.well; settings = here.settings ∙ w.settings }

  -- the whole run keeps to it
  pub keeps-to : (cs : List Call) (es : List Event) → Events s cs es → Each OnWire cs → Each NoSetting cs → (y : State) → Within s y
      → Within s (run B y cs)
  unfolding after Each
  keeps-to cs es none u k y w = w
  keeps-to cs es (next c e ds fs i rest) u k y w = keeps-to ds fs rest u.1 k.1 (B y c).state (onward y c e w u.0 k.0 i)

  pub record Lift (n : ℕ) (y : State) (cs : List Call) (es : List Event) : Type 0 where
    pub said : to_replies es (answers B y cs) ≡ map told_of (account.answers after_reading y.session (replies_in n es))
    pub left : (run B y cs).session ≡ account.leaves after_reading y.session (replies_in n es)
    pub end : Within s (run B y cs)

  abbrev answers_from : List Readings → LossSession → List Answer
  answers_from rs x = map told_of (account.answers after_reading x rs)

  abbrev leaves_from : List Readings → LossSession → LossSession
  leaves_from rs x = account.leaves after_reading x rs

  pub lift : (cs : List Call) (es : List Event) → Events s cs es → Each OnWire cs → Each NoSetting cs → Each NoClear cs
      → (n : ℕ) (y : State) → Within s y → y.received ≡ n % 2 ^ 32 → Lift n y cs es
  unfolding after answers Each replies_in to_replies account.answers
  lift cs es none u k j n y w h = record { said = refl; left = refl; end = w }
  lift cs es (next c (reply txf rxf txb) ds fs i rest) u k j n y w h =
      let x = here y c (reply txf rxf txb) w u.0 k.0 i in
      let r = lift ds fs rest u.1 k.1 j.1 n (B y c).state (onward y c (reply txf rxf txb) w u.0 k.0 i) (x.received ∙ h) in
      let m : readings txf rxf txb y.received ≡ readings txf rxf txb (n % 2 ^ 32) = ap (readings txf rxf txb) h in
      let z = x.session j.0 ∙ ap (λ (q : Readings). (after_reading y.session q).session) m in
      record {
        said = ap₂ ◌∷◌ (x.answer ∙ ap (λ (q : Readings). told_of (after_reading y.session q).answer) m)
            (r.said ∙ ap (answers_from (replies_in n fs)) z);
        left = r.left ∙ ap (leaves_from (replies_in n fs)) z;
        end = r.end;
      }
  lift cs es (next c received ds fs i rest) u k j n y w h =
      let x = here y c received w u.0 k.0 i in
      let r = lift ds fs rest u.1 k.1 j.1 (n + 1) (B y c).state (onward y c received w u.0 k.0 i)
      (x.received ∙ ap (λ (m : ℕ). (m + 1) % 2 ^ 32) h ∙ mod-add-mod n (2 ^ 32) 1) in
      let z = x.session j.0 in
      record {
        said = r.said ∙ ap (answers_from (replies_in (n + 1) fs)) z;
        left = r.left ∙ ap (leaves_from (replies_in (n + 1) fs)) z;
        end = r.end;
      }
  lift cs es (next c sent ds fs i rest) u k j n y w h =
      let x = here y c sent w u.0 k.0 i in
      let r = lift ds fs rest u.1 k.1 j.1 n (B y c).state (onward y c sent w u.0 k.0 i) (x.received ∙ h) in
      let z = x.session j.0 in
      record { said = r.said ∙ ap (answers_from (replies_in n fs)) z; left = r.left ∙ ap (leaves_from (replies_in n fs)) z; end = r.end }
  lift cs es (next c other ds fs i rest) u k j n y w h =
      let x = here y c other w u.0 k.0 i in
      let r = lift ds fs rest u.1 k.1 j.1 n (B y c).state (onward y c other w u.0 k.0 i) (x.received ∙ h) in
      let z = x.session j.0 in
      record { said = r.said ∙ ap (answers_from (replies_in n fs)) z; left = r.left ∙ ap (leaves_from (replies_in n fs)) z; end = r.end }
