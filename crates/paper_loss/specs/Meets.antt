-- Who meets demand 3, and that no run is left out of it. Statements only.
use Rattle.std.specs.Prelude.{ℕ, ◌+◌, ◌%◌, ◌^◌, ◌≡◌, List}
use Rattle.loss_session.specs.Session.{LossEnd, total_of}
use Rattle.state_view.specs.State.{State}
use Rattle.state_view.specs.WellFormed.{WellFormed}
use Rattle.paper_said.specs.Calls.{Call, clear, OnWire, NoSetting, Box}
use Rattle.paper_said.specs.Ours.{ours, Follows}
use Rattle.paper_loss.specs.Runs.{run, Each, NoClear, Event, Is, Events, received_in}
use Rattle.paper_loss.specs.Replies.{SinceClear}
use Rattle.paper_loss.specs.Demand3.{said, Demand3}
use Rattle.paper_loss.specs.Both.{AtOnce}

-- every box that follows the paper meets `paper_loss.Demand3`, ours too
pub record Meets : Type 0 where
  pub meets : (B : Box) → Follows B → Demand3 B
  pub ours_meets : Demand3 ours

-- ── every call is something ──

-- every run without a new setting has its events, they are the only ones, and they are of the settings and the calls alone
pub record Whole : Type 0 where
  -- every run without a new setting has its events, and they are the only ones
  pub all : (s : State) (cs : List Call) → Each OnWire cs → Each NoSetting cs → (es : List Event) × Events s cs es
  pub one : (s : State) (cs : List Call) (es fs : List Event) → Events s cs es → Events s cs fs → es ≡ fs
  -- they are of the settings and the call: two well-formed states with the same settings agree
  pub settings_alone : (s s' : State) (c : Call) (e : Event) → WellFormed s → WellFormed s' → s.settings ≡ s'.settings → Is s c e → Is s' c e

-- ── from any clear on ──

-- such a run starts at every clear, whatever calls were before it but a new setting: the same settings judge its calls, and our received
-- count is what was counted
abbrev pub FromAnyClear : Type 0
FromAnyClear = (B : Box) → Demand3 B → (n m : ℕ) (s : State) (before : List Call) (fs : List Event) (cs : List Call) (es : List Event)
    → WellFormed s → s.received ≡ n % 2 ^ 32 → s.sent ≡ m % 2 ^ 32
    → Each OnWire before → Each NoSetting before → Events s before fs
    → Each OnWire cs → Each NoSetting cs → Each NoClear cs → Events s cs es
    → SinceClear (n + received_in fs) (B (run B s before) clear).state cs es

-- ── no choice is left ──

-- two boxes say the same to every good reply of a run, and hold the same totals and intervals after it
pub record Alike (B C : Box) (s : State) (cs : List Call) (es : List Event) : Type 0 where
  pub results : said B s cs es ≡ said C s cs es
  pub totals : (d : LossEnd) → total_of d (run B s cs).session ≡ total_of d (run C s cs).session
  pub intervals : (run B s cs).session.intervals ≡ (run C s cs).session.intervals

-- no choice is left: two boxes that meet the demand answer every good reply alike and hold the same totals and intervals
abbrev pub Tight : Type 0
Tight = (B C : Box) → Demand3 B → Demand3 C → (n : ℕ) (s : State) (cs : List Call) (es : List Event) → SinceClear n s cs es → Alike B C s cs es

-- what follows from the demand: no choice is left, it holds from any clear on, and of all four counts at once
pub record Follow : Type 0 where
  pub tight : Tight
  pub from_any_clear : FromAnyClear
  pub at_once : AtOnce
