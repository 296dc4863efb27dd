-- One timer, and a run of what happens to it. The paper, "Frames, rule by rule", last paragraph: a tick lowers every timer above 0 by one;
-- rules 3 and 5 set timers to a hold time. Definitions and statements only.
use Rattle.std.specs.Prelude.{ℕ, suc, ◌-◌, ◌≤◌, ◌<◌, ◌≡◌, List, [], ◌∷◌, ◌++◌, map, ◌↔◌, replicate}
use Rattle.base_clock.specs.Run.{after}

-- what a call is to a timer: a tick, something that sets it to a hold time, or anything else
pub data Event : Type 0 where
  tick : Event
  set_to : ℕ → Event
  other : Event

-- a tick lowers a timer that is above 0 (0 - 1 is 0); a set timer is set again, also to less than is left
abbrev pub moved : ℕ → Event → ℕ
moved t tick = t - 1
moved t (set_to h) = h
moved t other = t

-- the timer after a run, t before it
abbrev pub timer_after : ℕ → List Event → ℕ
timer_after = after moved

-- how many ticks a run has
unfoldable pub ticks : List Event → ℕ
ticks [] = 0
ticks (tick ∷ es) = suc (ticks es)
ticks (set_to h ∷ es) = ticks es
ticks (other ∷ es) = ticks es

-- nothing in the run sets the timer
unfoldable pub NoSet : List Event → Type 0
NoSet [] = Unit {0}
NoSet (tick ∷ es) = NoSet es
NoSet (set_to h ∷ es) = ⊥
NoSet (other ∷ es) = NoSet es

-- a run of calls never sets the timer, or has a last call that does; `event` says what each call is to the timer
pub data LastSet {C : Type 0} (event : C → Event) : List C → Type 0 where
  never : (cs : List C) → NoSet (map event cs) → LastSet event cs
  last : (before : List C) (c : C) (h : ℕ) (since : List C) → event c ≡ set_to h → NoSet (map event since) → LastSet event (before ++ (c ∷ since))

-- a timer, whatever it held before, runs exactly while fewer ticks than its hold time have passed since it was last set
pub record Times : Type 1 where
  -- n ticks lower it by n, down to 0; a call that is neither tick nor set leaves it
  pub lowered : (n t : ℕ) → timer_after t (replicate n tick) ≡ t - n
  pub kept : (t : ℕ) → timer_after t (other ∷ []) ≡ t
  -- in any run of calls: it runs exactly while fewer than h ticks have passed since it was last set, to h
  pub runs : {C : Type 0} (event : C → Event) (t : ℕ) (before : List C) (c : C) (h : ℕ) (since : List C) → event c ≡ set_to h → NoSet (map event since)
      → (0 < timer_after t (map event (before ++ (c ∷ since)))) ↔ (ticks (map event since) < h)
  -- it is 0 exactly when h ticks or more have passed since then
  pub ends : {C : Type 0} (event : C → Event) (t : ℕ) (before : List C) (c : C) (h : ℕ) (since : List C) → event c ≡ set_to h → NoSet (map event since)
      → (timer_after t (map event (before ++ (c ∷ since))) ≡ 0) ↔ (h ≤ ticks (map event since))
  -- started at h and never set: 0 exactly when h ticks or more have passed since the start
  pub started : (h : ℕ) (since : List Event) → NoSet since → (timer_after h since ≡ 0) ↔ (h ≤ ticks since)
  -- started at 0 and never set: 0
  pub unset : (since : List Event) → NoSet since → timer_after 0 since ≡ 0
  -- no run is left out
  pub all : {C : Type 0} (event : C → Event) (cs : List C) → LastSet event cs
