-- Which calls a run may have, and what a tick leaves of the timers and the counter, by the paper. Assumes nothing.
use Prim.Native.Nat.{ℕ, ◌-◌, ◌≤◌}
use mathlib.Core.Path.{◌≡◌, refl}
use mathlib.Core.List.{List}
use native.Mathlib.Omega.{arith}
use lib.ListN.{length, length-map}
use borrow.Author.Tests.{lt-leb}
use Rattle.base_clock.specs.Timer.{Event, other}
use Rattle.base_clock.specs.Timer as event
use Rattle.base_clock.specs.Beat.{next_count}
use Rattle.base_period.specs.Periods.{ticks_of}
use Rattle.state_settings.specs.Settings.{Settings, slots}
use Rattle.state_settings.specs.Valid.{Valid}
use Rattle.state_view.specs.State.{State}
use Rattle.paper_said.specs.Calls as call
use Rattle.paper_said.specs.Calls.{Call, Answer, Outcome, OnWire}
use Rattle.paper_said.specs.Said as said
use Rattle.paper_said.specs.Called as calling
use Rattle.paper_said.specs.Said.{Said}
use Rattle.paper_time.specs.Timers.{Timer}
use Rattle.paper_time.specs.Time.{Beat, sends, quiet}
use Rattle.paper_time.proofs.Timers.{timer_of, tick_lowers}
use Rattle.paper_time.proofs.Changes.{Holds}

-- a call as an event of a timer that it does not set
abbrev pub passing : Call → Event
passing (call.new_setting t) = other
passing (call.frame a) = other
passing (call.tick b) = event.tick
passing call.clear = other
passing (call.send_LMM b) = other
passing (call.send_DMM d b) = other
passing call.conditions = other

-- what a call of a run is, in the state that it meets: of its width, a tick with room where a CCM is due, a setting that is refused
abbrev pub Good : State → Call → Type 0
Good s (call.new_setting t) = OnWire (call.new_setting t) × (Valid t → ⊥)
Good s (call.frame a) = OnWire (call.frame a)
Good s (call.tick b) = s.next ≤ 1 → 89 ≤ length b
Good s call.clear = Unit
Good s (call.send_LMM b) = Unit
Good s (call.send_DMM d b) = OnWire (call.send_DMM d b)
Good s call.conditions = Unit

pub wire : (s : State) (c : Call) → Good s c → OnWire c
wire s (call.new_setting t) f = f.0
wire s (call.frame a) f = f
wire s (call.tick b) f = tt
wire s call.clear f = tt
wire s (call.send_LMM b) f = tt
wire s (call.send_DMM d b) f = f
wire s call.conditions f = tt

-- ── a tick ──

-- what it leaves, and its answer
pub record Ticked (t : Settings) (s z : State) (r : Answer) : Type 0 where
  pub settings : z.settings ≡ s.settings
  pub slots : length z.timers ≡ length s.timers
  pub next : z.next ≡ next_count (ticks_of t.period) s.next
  pub timers : (x : Timer) → timer_of x z ≡ timer_of x s - 1
  pub answer : Beat (s.next ≤ 1) r

module _ {t : Settings} {s : State} (H : Holds t s) where
  pub tick-line : {b : List ℕ} {o : Outcome} → Good s (call.tick b) → Said s (call.tick b) o → Ticked t s o.state o.answer
  tick-line room (said.by_call (calling.tick_2 b n)) = absurd (n H.well)
  tick-line room (said.by_call (calling.tick_lowers b w h)) = record {
    settings = refl;
    slots = length-map s.timers (λ (n : ℕ). n - 1);
    next = rw (lt-leb s.next 1 h);
    timers = λ x. tick_lowers x (s.next - 1) s;
    answer = quiet (λ (l : s.next ≤ 1). omega (arith, l, h));
  }
  tick-line room (said.by_call (calling.tick_3 b w e h)) = absurd (omega (arith, room (omega (arith, e)), h))
  tick-line room (said.by_call (calling.tick_sends b rdi w e h f)) = record {
    settings = refl;
    slots = length-map s.timers (λ (n : ℕ). n - 1);
    next = rw (e, H.same);
    timers = λ x. tick_lowers x _ s;
    answer = sends (omega (arith, e));
  }
