-- A box that counts every second frame, refuted by two service frames. Assumes nothing.
use Prim.Native.Nat.{◌+◌, ◌%◌, ◌^◌}
use mathlib.Core.Path.{◌≡◌, refl, sym, ap, ◌∙◌}
use mathlib.Core.List.{[], ◌∷◌, ◌++◌}
use Rattle.base_clock.specs.Run.{after}
use Rattle.base_laws.specs.Lists.{every, every_pair, distinct, on_first}
use Rattle.base_period.specs.Periods.{hold_of, ticks_of}
use Rattle.state_settings.specs.Valid.{valid}
use Rattle.state_peer_ids.specs.Ids.{peers_good}
use Rattle.loss_session.specs.Session as Session
use Rattle.state_view.specs.State.{State}
use Rattle.state_view.specs.Changed.{put}
use Rattle.state_view.specs.Changed as word
use Rattle.state_view.specs.WellFormed.{WellFormed, well_formed}
use Rattle.state_view.proofs.Rules.{well_formed_is}
use Rattle.paper_said.specs.Calls.{active, frame, passed, Outcome, leaves}
use Rattle.paper_said.specs.Said as said
use Rattle.paper_said.specs.Judged as judging
use Rattle.paper_said.specs.Ours.{ours}
use Rattle.paper_said.proofs.Follows.{ours-follows}
use Rattle.paper_promised.proofs.Example.{setting, start, well}
use Rattle.paper_loss.specs.Runs.{Each, received, is_received, Events, none, next, received_in}
use Rattle.paper_loss.specs.Demand3.{Demand3}
use Rattle.paper_wrong_boxes.specs.Wrong.{timed, halved, halves}
use Rattle.paper_loss.proofs.Same.{counted-to}
use Rattle.paper_wrong_boxes.proofs.Frames.{service, service-wire, service-counted, frame-no_setting}
use Rattle.base_laws.proofs.Tests.{differ}

-- ── two service frames ──

abbrev counted : State → Outcome
counted y = leaves passed (put word.received ((y.received + 1) % 2 ^ 32) y) []

pub service-left : (y : State) → WellFormed y → y.settings ≡ setting → ours y (frame service) ≡ counted y
service-left y w e =
    let c = counted-to start y service w (sym e) active service-counted in
    ours-follows.box.follows y (frame service) _ service-wire
    (said.by_rules_1_to_4 (judging.rule_1_received service c.heeded c.service c.from))

-- the state with the ninth timer
abbrev odd : State
odd = timed (start.timers ++ (0 ∷ [])) start

odd-well : WellFormed odd
unfolding well_formed valid peers_good every every_pair distinct on_first Session.well_formed hold_of ticks_of
odd-well = (well_formed_is.well_formed_is odd).0 refl

halves-first : (halves start (frame service)).state ≡ odd
unfolding on_first
halves-first = ap (λ (o : Outcome). (halved start o).state) (service-left start well refl)

halves_then : (halves odd (frame service)).state.received ≡ 1
unfolding on_first
halves_then = ap (λ (o : Outcome). (halved odd o).state.received) (service-left odd odd-well refl)

two_frames : Events start (frame service ∷ frame service ∷ []) (received ∷ received ∷ [])
two_frames = next _ _ _ _ (is_received service service-counted) (next _ _ _ _ (is_received service service-counted) none)

-- two frames are counted, and it has one
pub halves_out : Demand3 halves → ⊥
unfolding after Each received_in
halves_out d =
    let e = d.counts 0 0 start (frame service ∷ frame service ∷ []) (received ∷ received ∷ []) refl refl (service-wire, (service-wire, tt))
    (frame-no_setting service, (frame-no_setting service, tt)) two_frames in
    let f : (halves (halves start (frame service)).state (frame service)).state.received ≡ 1 =
    ap (λ (y : State). (halves y (frame service)).state.received) halves-first ∙ halves_then in
    differ 2 1 0 (sym e.0 ∙ f) refl
