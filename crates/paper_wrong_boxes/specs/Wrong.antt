-- Boxes that get it wrong, each of them ours but for one thing. proofs/Refuted.antt shows of each, by a run that is written out, that it
-- does not meet demand 3. Definitions and the statement only.
use Rattle.std.specs.Prelude.{ℕ, ◌-◌, Bool, true, false, cond, List, [], ◌∷◌, ◌++◌, eqb, ℤ, pos, negsuc, length, take}
use Rattle.state_settings.specs.Settings.{slots}
use Rattle.loss_session.specs.declared.LossSession.{LossSession}
use Rattle.state_view.specs.State.{State}
use Rattle.state_view.specs.Changed.{with_slots, with_session}
use Rattle.paper_said.specs.Calls.{new_setting, frame, tick, clear, send_LMM, send_DMM, conditions, Answer, refused, dropped, passed, taken, written, loss, delay, delays, done, standing, Outcome, leaves, Box}
use Rattle.paper_said.specs.Ours.{ours}
use Rattle.paper_loss.specs.Demand3.{Demand3}

-- an outcome in place of another where that one answers a loss
abbrev instead : (ℤ → ℤ → Outcome) → Outcome → Answer → Outcome
instead f o (loss n g) = f n g
instead f o (refused n) = o
instead f o (dropped n) = o
instead f o passed = o
instead f o taken = o
instead f o (written n) = o
instead f o (delay t) = o
instead f o (delays t x n) = o
instead f o done = o
instead f o (standing r) = o

-- an outcome with another state
abbrev with_state : State → Outcome → Outcome
with_state s o = record { answer = o.answer; state = s; buffer = o.buffer; out = o.out }

-- handles the first loss reply; to every later one it says and keeps what it said and kept then
abbrev pub repeated : State → Outcome → Outcome
repeated s o = cond (eqb s.session.kept 0) o (instead (λ n f. leaves (loss (pos 0) (pos 0)) s o.buffer) o o.answer)

abbrev pub repeats : Box
repeats s c = repeated s (ours s c)

-- answers right, and invents the number of intervals
abbrev numbered : ℕ → LossSession → LossSession
numbered k x = record { kept = x.kept; intervals = k; last = x.last; near = x.near; far = x.far }

abbrev pub invents : Box
invents s c = with_state (with_session (numbered 7 (ours s c).state.session) (ours s c).state) (ours s c)

-- counts every second frame that is received: a ninth timer is kept while one is not counted
abbrev pub timed : List ℕ → State → State
timed timers s = with_slots timers s.rdi s

abbrev second : State → Outcome → Bool → Outcome
second s o true = with_state (timed (s.timers ++ (0 ∷ [])) s) o
second s o false = with_state (timed (take slots o.state.timers) o.state) o

abbrev pub halved : State → Outcome → Outcome
halved s o = cond (eqb o.state.received s.received) o (second s o (eqb (length s.timers) slots))

abbrev pub halves : Box
halves s c = halved s (ours s c)

-- answers a loss without its sign, in 32 bits: -1 is 4,294,967,295
abbrev unsigned : ℤ → ℤ
unsigned (pos n) = pos n
unsigned (negsuc n) = pos (4294967295 - n)

abbrev pub signed_off : Outcome → Outcome
signed_off o = instead (λ n f. leaves (loss (unsigned n) (unsigned f)) o.state o.buffer) o o.answer

abbrev pub signless : Box
signless s c = signed_off (ours s c)

-- a clear that clears nothing
abbrev pub lingers : Box
lingers s (new_setting t) = ours s (new_setting t)
lingers s (frame a) = ours s (frame a)
lingers s (tick b) = ours s (tick b)
lingers s clear = leaves done s []
lingers s (send_LMM b) = ours s (send_LMM b)
lingers s (send_DMM t b) = ours s (send_DMM t b)
lingers s conditions = ours s conditions

-- five wrong boxes do not meet demand 3, each by a run that is written out: one repeats itself after the first reply, one invents the
-- intervals, one counts every second frame, one drops the sign, one has a clear that clears nothing
pub record ShutOut : Type 0 where
  pub repeats_out : Demand3 repeats → ⊥
  pub invents_out : Demand3 invents → ⊥
  pub halves_out : Demand3 halves → ⊥
  pub signless_out : Demand3 signless → ⊥
  pub lingers_out : Demand3 lingers → ⊥
