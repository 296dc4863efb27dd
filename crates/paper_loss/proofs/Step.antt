-- What one call leaves of a well-formed state, by what it is, for every box that follows the paper. Assumes nothing.
use Prim.Native.Nat.{ℕ, ◌+◌, ◌%◌, ◌^◌, ◌<◌}
use mathlib.Core.Path.{◌≡◌, refl}
use mathlib.Core.Bool.{true, false}
use mathlib.Core.Logic.{⊎_elim}
use native.Mathlib.Omega.{arith}
use lib.Dec.{eqb}
use lib.IntN.{pos}
use borrow.Author.Tests.{eqb-true, eqb-false}
use Rattle.std.specs.Prelude.{Result, Ok, Err, Option, Some, None}
use Rattle.loss_reading.specs.Losses.{losses_of}
use Rattle.base_laws.proofs.Tests.{known}
use Rattle.loss_session.specs.declared.Readings.{Readings}
use Rattle.loss_session.specs.declared.LossSession.{LossSession}
use Rattle.loss_reading.specs.declared.LossRefusal.{LossRefusal}
use Rattle.loss_reading.specs.declared.Losses.{Losses}
use Rattle.loss_reading.specs.declared.LossRefusal.TheVariants as answer
use Rattle.loss_reading.specs.declared.Updated.{Updated}
use Rattle.loss_session.specs.Session.{readings, most_intervals}
use Rattle.loss_reading.specs.Reading.{after_reading}
use Rattle.loss_session.proofs.Laws.{well}
use Rattle.loss_reading.proofs.Laws.{reading-first, reading-full, reading-measured}
use Rattle.state_view.specs.State.{State}
use Rattle.state_view.specs.Changed.{with_session}
use Rattle.state_view.specs.WellFormed.{WellFormed}
use Rattle.paper_said.specs.Calls as call
use Rattle.paper_said.specs.Calls.{Arrival, Call, Answer, refused, loss, Outcome, leaves, OnWire, NoSetting, Box}
use Rattle.paper_said.specs.Said as said
use Rattle.paper_said.specs.Judged as judging
use Rattle.paper_said.specs.Handling as handling
use Rattle.paper_said.specs.Made as made
use Rattle.paper_said.specs.Taken.{LossReply}
use Rattle.paper_said.specs.Said.{Said}
use Rattle.paper_said.specs.Ours.{Follows}
use Rattle.paper_promised.proofs.Promised.{promises}
use Rattle.paper_loss.specs.Runs.{NoClear, Event, Neither, Is}
use Rattle.paper_loss.specs.Runs as event
use Rattle.paper_loss.proofs.Quiet.{quiet, quiet-tick, quiet-lmm, quiet-dmm, quiet-conditions, calm_clear}

-- a loss session's answer in the paper's words
abbrev pub told_of : Result (Option Losses) LossRefusal → Answer
told_of (Err answer.NotWellFormed) = refused 2
told_of (Err answer.Full) = refused 5
told_of (Ok None) = loss (pos 0) (pos 0)
told_of (Ok (Some l)) = loss l.near l.far

-- ── one call, whatever it is ──

-- the received count, the sent count and the session behind an event
abbrev pub received_by : Event → ℕ → ℕ
received_by (event.reply txf rxf txb) n = n
received_by event.received n = (n + 1) % 2 ^ 32
received_by event.sent n = n
received_by event.other n = n

abbrev pub sent_by : Event → ℕ → ℕ
sent_by (event.reply txf rxf txb) n = n
sent_by event.received n = n
sent_by event.sent n = (n + 1) % 2 ^ 32
sent_by event.other n = n

abbrev pub session_by : Event → ℕ → LossSession → LossSession
session_by (event.reply txf rxf txb) n x = (after_reading x (readings txf rxf txb n)).session
session_by event.received n x = x
session_by event.sent n x = x
session_by event.other n x = x

-- what is said of the answer: at a reply, the session's
abbrev pub AnswerBy : Event → ℕ → LossSession → Answer → Type 0
AnswerBy (event.reply txf rxf txb) n x r = r ≡ told_of (after_reading x (readings txf rxf txb n)).answer
AnswerBy event.received n x r = Unit {0}
AnswerBy event.sent n x r = Unit {0}
AnswerBy event.other n x r = Unit {0}

pub record Step (y : State) (c : Call) (e : Event) (o : Outcome) : Type 0 where
  pub settings : o.state.settings ≡ y.settings
  pub received : o.state.received ≡ received_by e y.received
  pub sent : o.state.sent ≡ sent_by e y.sent
  pub session : NoClear c → o.state.session ≡ session_by e y.received y.session
  pub answer : AnswerBy e y.received y.session o.answer

module _ (y : State) (a : Arrival) (l : LossReply y a) where
  abbrev read : Readings
  read = made.reading y a

  abbrev updated : Updated → Outcome
  updated u = leaves (told_of u.answer) (with_session u.session y) a.buffer

  -- a good loss reply is one more reading of the session
  pub reply-said : Said y (call.frame a) (updated (after_reading y.session read))
  reply-said =
      let x = l.own.oam.heeded.well.session in
      let v = (well y.session).1 x in
      ⊎_elim
      (λ (t : eqb y.session.kept 0 ≡ true).
      let k = eqb-true y.session.kept 0 t in
      rw (reading-first y.session read v k) (said.by_rules_5_to_8 (handling.rule_7_first a l k)))
      (λ (t : eqb y.session.kept 0 ≡ false).
      let n = eqb-false y.session.kept 0 t in
      let k : y.session.kept ≡ 1 = omega (arith, n, x.flag) in
      ⊎_elim
      (λ (q : eqb y.session.intervals most_intervals ≡ true).
      let f = eqb-true y.session.intervals most_intervals q in
      rw (reading-full y.session read v n f) (said.by_rules_5_to_8 (handling.frame_5 a l k f)))
      (λ (q : eqb y.session.intervals most_intervals ≡ false).
      let f = eqb-false y.session.intervals most_intervals q in
      let few : y.session.intervals < most_intervals = omega (arith, f, x.few) in
      rw (reading-measured y.session read v n f) (said.by_rules_5_to_8 (handling.rule_7_later a l k few)))
      (known (eqb y.session.intervals most_intervals)))
      (known (eqb y.session.kept 0))

-- the step of a call that is none of the three, by the sentence that the paper says of it
step_other : (y : State) (c : Call) (o : Outcome) → NoSetting c → ((a : Arrival) → c ≡ call.frame a → Neither y a) → Said y c o
    → Step y c event.other o
step_other y (call.new_setting t) o k n p = absurd (k t refl)
step_other y (call.frame a) o k n p =
    let q = quiet (n a refl) p in record { settings = q.0; received = q.1; sent = q.2; session = λ z. q.3; answer = tt }
step_other y (call.tick b) o k n p =
    let q = quiet-tick p in record { settings = q.0; received = q.1; sent = q.2; session = λ z. q.3; answer = tt }
step_other y call.clear o k n p =
    let q = calm_clear p in record { settings = q.0; received = q.1; sent = q.2; session = λ z. absurd (z refl); answer = tt }
step_other y (call.send_LMM b) o k n p =
    let q = quiet-lmm p in record { settings = q.0; received = q.1; sent = q.2; session = λ z. q.3; answer = tt }
step_other y (call.send_DMM t b) o k n p =
    let q = quiet-dmm p in record { settings = q.0; received = q.1; sent = q.2; session = λ z. q.3; answer = tt }
step_other y call.conditions o k n p =
    let q = quiet-conditions p in record { settings = q.0; received = q.1; sent = q.2; session = λ z. q.3; answer = tt }

module _ (B : Box) (F : Follows B) where
  pub step : (y : State) (c : Call) (e : Event) → OnWire c → NoSetting c → Is y c e → Step y c e (B y c)
  step y c e u k (event.is_reply a l) =
      rw (F.follows y (call.frame a) _ u (reply-said y a l))
      (record { settings = refl; received = refl; sent = refl; session = λ z. refl; answer = refl })
  step y c e u k (event.is_received a h) =
      rw (F.follows y (call.frame a) _ u (said.by_rules_1_to_4 (judging.rule_1_received a h.heeded h.service h.from)))
      (record { settings = refl; received = refl; sent = refl; session = λ z. refl; answer = tt })
  step y c e u k (event.is_sent a h) =
      rw (F.follows y (call.frame a) _ u (said.by_rules_1_to_4 (judging.rule_1_sent a h.heeded h.service h.from)))
      (record { settings = refl; received = refl; sent = refl; session = λ z. refl; answer = tt })
  step y c e u k (event.is_other x n) =
      let p = promises.says y x u in rw (F.follows y x p.0 u p.1) (step_other y x p.0 k n p.1)

  -- a well-formed state stays so
  pub stays : (y : State) (c : Call) → OnWire c → WellFormed y → WellFormed (B y c).state
  stays y c u w = (promises.kept B F).stays y c u w
