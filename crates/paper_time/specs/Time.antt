-- Time, of any box: what its ticks and its conditions answer over runs of any calls since a setting. The paper, "Frames, rule by rule",
-- last paragraph, and "Numbers" for periods and hold times. Only answers are read. Definitions and the statements only.
use Rattle.std.specs.Prelude.{ℕ, suc, ◌≤◌, ◌<◌, ◌≡◌, List, ◌∷◌, ◌++◌, length, get_or}
use Rattle.state_settings.specs.Settings.{Settings}
use Rattle.state_settings.specs.Valid.{Valid}
use Rattle.state_view.specs.State.{State}
use Rattle.state_view.specs.WellFormed.{WellFormed}
use Rattle.paper_said.specs.Calls.{Call, tick, conditions, Answer, refused, written, done, standing, Raised, OnWire, Box}
use Rattle.paper_said.specs.Standing.{Flag}
use Rattle.paper_said.specs.Started.{Settable}
use Rattle.paper_said.specs.Ours.{ours, Follows}
use Rattle.paper_time.specs.Runs.{Due, Room, Fits, Each, ticks_in, since}
use Rattle.paper_time.specs.Timers.{mismerge, unexpected_level, unexpected_mep, unexpected_period, ais, lck, Timer, peer, of, Used, at_start, Sets, Unset}

-- ── answers ──

-- a tick's answer: a CCM of 89 octets exactly where P holds, else nothing is sent
pub data Beat (P : Type 0) : Answer → Type 0 where
  sends : P → Beat P (written 89)
  quiet : (P → ⊥) → Beat P done

-- what the answer to `conditions` shows of a timer
abbrev pub shown : Timer → Raised → ℕ
shown (peer k) r = get_or r.lost k 0
shown (of mismerge) r = r.mismerge
shown (of unexpected_level) r = r.unexpected_level
shown (of unexpected_mep) r = r.unexpected_mep
shown (of unexpected_period) r = r.unexpected_period
shown (of ais) r = r.ais
shown (of lck) r = r.lck

-- conditions are answered, and this one is active exactly where P holds
pub data Told (x : Timer) (P : Type 0) : Answer → Type 0 where
  told : (r : Raised) → Flag P (shown x r) → Told x P (standing r)

-- n ticks after its timer was set to h: a peer is lost once h ticks have passed, any other condition is active while fewer have
abbrev pub Stands : Timer → ℕ → ℕ → Type 0
Stands (peer k) h n = h ≤ n
Stands (of c) h n = n < h

-- ── what is said of a box ──

pub record Time (B : Box) : Type 0 where
  -- on any well-formed state a tick is not refused, with room for a CCM where it is a period's last
  pub takes : (s : State) (b : List ℕ) (n : ℕ) → WellFormed s → (s.next ≡ 1 → 89 ≤ length b) → (B s (tick b)).answer ≡ refused n → ⊥
  -- the tick after a run, number k since the setting, sends a CCM exactly when the period divides k, and needs room only then
  pub beats : (s : State) (t : Settings) (cs : List Call) (b : List ℕ) → Settable t → Fits t 0 cs → Room t (suc (ticks_in cs)) b
      → Beat (Due t (suc (ticks_in cs))) (B (since B s t cs) (tick b)).answer
  -- a timer that no call has set since the setting
  pub never : (s : State) (t : Settings) (x : Timer) (cs : List Call) → Settable t → Fits t 0 cs → Used t x → Each (Unset t x) cs
      → Told x (Stands x (at_start t x) (ticks_in cs)) (B (since B s t cs) conditions).answer
  -- a timer that the call c was the last to set, to h
  pub last : (s : State) (t : Settings) (x : Timer) (before : List Call) (c : Call) (h : ℕ) (cs : List Call)
      → Settable t → Fits t 0 (before ++ (c ∷ cs)) → Used t x → Sets t x c h → Each (Unset t x) cs
      → Told x (Stands x h (ticks_in cs)) (B (since B s t (before ++ (c ∷ cs))) conditions).answer

-- a run sets a timer never, or there is a last call that does
pub data LastSet (t : Settings) (x : Timer) : List Call → Type 0 where
  unset : (cs : List Call) → Each (Unset t x) cs → LastSet t x cs
  split : (before : List Call) (c : Call) (h : ℕ) (cs : List Call) → Sets t x c h → Each (Unset t x) cs → LastSet t x (before ++ (c ∷ cs))

-- every box that follows the paper is in time, ours too; a run sets a timer never, or there is a last call that does
pub record Timely : Type 0 where
  -- every box that follows the paper is in time, ours too
  pub every : (B : Box) → Follows B → Time B
  pub our_box : Time ours
  -- `never` and `last` leave no run out: whether a call sets a timer can always be decided
  pub all : (t : Settings) (x : Timer) (cs : List Call) → Valid t → Each OnWire cs → Used t x → LastSet t x cs

-- both answer conditions, and the same of this timer's
pub data Alike (x : Timer) : Answer → Answer → Type 0 where
  alike : (r q : Raised) → shown x r ≡ shown x q → Alike x (standing r) (standing q)

-- no choice is left: over the same calls since the same setting, from whatever state before, two boxes in time answer alike
pub record Tight : Type 0 where
  pub ticks : (B C : Box) → Time B → Time C → (s z : State) (t : Settings) (cs : List Call) (b : List ℕ)
      → Settable t → Fits t 0 cs → Room t (suc (ticks_in cs)) b
      → (B (since B s t cs) (tick b)).answer ≡ (C (since C z t cs) (tick b)).answer
  pub told : (B C : Box) → Time B → Time C → (s z : State) (t : Settings) (x : Timer) (cs : List Call)
      → Settable t → Fits t 0 cs → Used t x
      → Alike x (B (since B s t cs) conditions).answer (C (since C z t cs) conditions).answer
