-- Every call of a run but a new setting is one event, and one alone. Assumes nothing.
use Prim.Native.Nat.{ℕ}
use mathlib.Core.Path.{◌≡◌, refl, sym, ap, ap₂, ◌∙◌}
use mathlib.Core.Bool.{Bool, true, false, true≢false}
use mathlib.Core.List.{List, [], ◌∷◌}
use native.Mathlib.Omega.{arith}
use Rattle.state_view.specs.State.{State}
use Rattle.paper_said.specs.Calls as call
use Rattle.paper_said.specs.Calls.{ArrivalSide, active, passive, Arrival, Call, OnWire, NoSetting}
use Rattle.paper_said.specs.Taken.{LossReply}
use Rattle.paper_loss.specs.Runs.{Each, CountedFrom, Event, reply, received, sent, other, Is, is_reply, is_received, is_sent}
use Rattle.paper_loss.specs.Runs.{is_other, Events, none, next}
use Rattle.paper_loss.specs.Meets.{Whole}
use Rattle.paper_loss.proofs.Same.{is-to}
use Rattle.paper_loss.proofs.EventOf.{of-frame}

-- ── every call ──

-- which calls are frames
is_frame : Call → Bool
is_frame (call.new_setting t) = false
is_frame (call.frame b) = true
is_frame (call.tick b) = false
is_frame call.clear = false
is_frame (call.send_LMM b) = false
is_frame (call.send_DMM t b) = false
is_frame call.conditions = false

no-frame : (s : State) (c : Call) → is_frame c ≡ false → Is s c other
unfolding is_frame
no-frame s c e = is_other c (λ a q. absurd (true≢false (sym (ap is_frame q) ∙ e)))

of-call : (s : State) (c : Call) → OnWire c → NoSetting c → (e : Event) × Is s c e
unfolding is_frame
of-call s (call.new_setting t) u k = absurd (k t refl)
of-call s (call.frame a) u k = of-frame s a u
of-call s (call.tick b) u k = (other, no-frame s (call.tick b) refl)
of-call s call.clear u k = (other, no-frame s call.clear refl)
of-call s (call.send_LMM b) u k = (other, no-frame s (call.send_LMM b) refl)
of-call s (call.send_DMM t b) u k = (other, no-frame s (call.send_DMM t b) refl)
of-call s call.conditions u k = (other, no-frame s call.conditions refl)

all : (s : State) (cs : List Call) → Each OnWire cs → Each NoSetting cs → (es : List Event) × Events s cs es
unfolding Each
all s [] u k = ([], none)
all s (c ∷ cs) u k =
    let e = of-call s c u.0 k.0 in
    let r = all s cs u.1 k.1 in
    (e.0 ∷ r.0, next c e.0 cs r.0 e.1 r.1)

-- ── one alone ──

apart : (s : State) (a : Arrival) (d : ArrivalSide) {X : Type 0} → LossReply s a → CountedFrom d s a → X
apart s a d l c = absurd (c.service l.own.oam.ether)

sides : (s : State) (a : Arrival) {X : Type 0} → CountedFrom active s a → CountedFrom passive s a → X
sides s a x y = let z : ◌≡◌ {A = ℕ} 0 1 = cc in absurd (omega arith)

one_event : {s : State} {c : Call} {e f : Event} → Is s c e → Is s c f → e ≡ f
one_event (is_reply a l) (is_reply b m) = refl
one_event (is_reply a l) (is_received b k) = apart _ _ _ l k
one_event (is_reply a l) (is_sent b k) = apart _ _ _ l k
one_event (is_reply a l) (is_other x n) = absurd ((n a refl).reply l)
one_event (is_received a k) (is_reply b m) = apart _ _ _ m k
one_event (is_received a k) (is_received b j) = refl
one_event (is_received a k) (is_sent b j) = sides _ _ k j
one_event (is_received a k) (is_other x n) = absurd ((n a refl).received k)
one_event (is_sent a k) (is_reply b m) = apart _ _ _ m k
one_event (is_sent a k) (is_received b j) = sides _ _ j k
one_event (is_sent a k) (is_sent b j) = refl
one_event (is_sent a k) (is_other x n) = absurd ((n a refl).sent k)
one_event (is_other x n) (is_reply b m) = absurd ((n b refl).reply m)
one_event (is_other x n) (is_received b j) = absurd ((n b refl).received j)
one_event (is_other x n) (is_sent b j) = absurd ((n b refl).sent j)
one_event (is_other x n) (is_other y m) = refl

one : {s : State} {cs : List Call} {es fs : List Event} → Events s cs es → Events s cs fs → es ≡ fs
one none none = refl
one (next c e cs es i r) (next d f ds fs j q) = ap₂ ◌∷◌ (one_event i j) (one r q)

pub whole : Whole
whole = record { all = all; one = λ s cs es fs x y. one x y; settings_alone = λ s y c e v w t i. is-to s y c e v w t i }
