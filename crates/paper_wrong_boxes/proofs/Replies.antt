-- Boxes that miscount replies, refuted by a run of one reply and by a run of two. Assumes nothing.
use mathlib.Core.Path.{◌≡◌, refl, sym, ap, ◌∙◌}
use mathlib.Core.List.{[], ◌∷◌}
use native.Mathlib.Omega.{arith}
use lib.IntN.{pos}
use Rattle.base_clock.specs.Run.{after}
use Rattle.loss_session.specs.declared.LossSession.{LossSession}
use Rattle.loss_session.specs.Session.{near, far}
use Rattle.loss_reading.specs.Reading.{loss_on}
use Rattle.state_view.specs.State.{State}
use Rattle.state_view.specs.Changed.{with_session}
use Rattle.state_view.specs.WellFormed.{WellFormed}
use Rattle.state_view.proofs.Rules.{session-put}
use Rattle.paper_said.specs.Calls as call
use Rattle.paper_said.specs.Calls.{frame, Outcome, leaves}
use Rattle.paper_said.specs.Said as said
use Rattle.paper_said.specs.Handling as handling
use Rattle.paper_said.specs.Made as made
use Rattle.paper_said.specs.Made.{kept_first}
use Rattle.paper_said.specs.Ours.{ours}
use Rattle.paper_said.proofs.Follows.{ours-follows}
use Rattle.paper_promised.proofs.Kept.{first-well}
use Rattle.paper_promised.proofs.Example.{start, well}
use Rattle.base_laws.proofs.Tests.{differ}
use Rattle.paper_loss.specs.Runs.{Each, none, next}
use Rattle.paper_loss.specs.Replies.{replies_in, loss, SinceClear}
use Rattle.paper_loss.specs.Demand3.{Demand3}
use Rattle.paper_wrong_boxes.specs.Wrong.{repeated, repeats, invents, lingers}
use Rattle.paper_loss.proofs.Same.{reply-to}
use Rattle.paper_wrong_boxes.proofs.Frames.{lmr, lmr-wire, lmr-good, replies, lmr-is, frame-no_setting, frame-no_clear}

-- one reply
one-reply : SinceClear 0 start (frame lmr ∷ []) (replies ∷ [])
unfolding Each
one-reply = record {
  well = well;
  cleared = refl;
  count = refl;
  wire = (lmr-wire, tt);
  no_setting = (frame-no_setting lmr, tt);
  no_clear = (frame-no_clear lmr, tt);
  events = next _ _ _ _ lmr-is none;
}

-- two replies
two-replies : SinceClear 0 start (frame lmr ∷ frame lmr ∷ []) (replies ∷ replies ∷ [])
unfolding Each
two-replies = record {
  well = well;
  cleared = refl;
  count = refl;
  wire = (lmr-wire, (lmr-wire, tt));
  no_setting = (frame-no_setting lmr, (frame-no_setting lmr, tt));
  no_clear = (frame-no_clear lmr, (frame-no_clear lmr, tt));
  events = next _ _ _ _ lmr-is (next _ _ _ _ lmr-is none);
}

-- one reply has no interval
pub invents_out : Demand3 invents → ⊥
unfolding after replies_in
invents_out d = differ 7 0 6 (d.intervals 0 start (frame lmr ∷ []) (replies ∷ []) one-reply) refl

-- the state behind the first reply
abbrev pub kept : State
kept = with_session (kept_first start.session (made.reading start lmr)) start

pub kept-well : WellFormed kept
kept-well = session-put start _ (first-well start.session (made.reading start lmr) well.session refl) well

pub first-reply : ours start (frame lmr) ≡ leaves (call.loss (pos 0) (pos 0)) kept []
first-reply = ours-follows.box.follows start (frame lmr) _ lmr-wire (said.by_rules_5_to_8 (handling.rule_7_first lmr lmr-good refl))

-- the next one there is answered with a loss
abbrev next_read : Outcome
next_read =
    leaves (call.loss (loss_on near kept.session.last (made.reading kept lmr))
    (loss_on far kept.session.last (made.reading kept lmr)))
    (with_session (made.measured kept.session (made.reading kept lmr)) kept) []

later-reply : ours kept (frame lmr) ≡ next_read
later-reply =
    ours-follows.box.follows kept (frame lmr) _ lmr-wire
    (said.by_rules_5_to_8 (handling.rule_7_later lmr (reply-to start kept lmr kept-well refl lmr-good) refl (omega arith)))

-- two replies are one interval
repeats-first : (repeats start (frame lmr)).state ≡ kept
repeats-first = ap (λ (o : Outcome). (repeated start o).state) first-reply

repeats_then : (repeats kept (frame lmr)).state ≡ kept
repeats_then = ap (λ (o : Outcome). (repeated kept o).state) later-reply

pub repeats_out : Demand3 repeats → ⊥
unfolding after replies_in
repeats_out d =
    let e = d.intervals 0 start (frame lmr ∷ frame lmr ∷ []) (replies ∷ replies ∷ []) two-replies in
    let f : (repeats (repeats start (frame lmr)).state (frame lmr)).state.session.intervals ≡ 0 =
    ap (λ (y : State). (repeats y (frame lmr)).state.session.intervals) repeats-first
    ∙ ap (λ (y : State). y.session.intervals) repeats_then in
    differ 1 0 0 (sym e ∙ f) refl

-- ── a clear behind the first reply ──

pub lingers_out : Demand3 lingers → ⊥
lingers_out d = differ 1 0 0 (ap (λ (x : LossSession). x.kept) (d.after_clear kept kept-well).cleared) refl
