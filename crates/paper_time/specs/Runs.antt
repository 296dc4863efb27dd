-- Runs of calls since a setting. Definitions only.
use Rattle.std.specs.Prelude.{ℕ, suc, ◌≤◌, List, [], ◌∷◌, length}
use Rattle.std.specs.Int.{◌∣◌}
use Rattle.base_clock.specs.Run.{after}
use Rattle.base_period.specs.Periods.{ticks_of}
use Rattle.state_settings.specs.Settings.{Settings}
use Rattle.state_settings.specs.Valid.{Valid}
use Rattle.state_view.specs.State.{State}
use Rattle.paper_said.specs.Calls.{Call, new_setting, frame, tick, clear, send_LMM, send_DMM, conditions, OnWire, Box}

-- tick number k since the setting is the last of a period, and sends a CCM ("Frames, rule by rule", last paragraph)
abbrev pub Due : Settings → ℕ → Type 0
Due t k = ticks_of t.period ∣ k

-- so it needs room for one; any other tick needs none
abbrev pub Room : Settings → ℕ → List ℕ → Type 0
Room t k b = Due t k → 89 ≤ length b

-- a run that begins k ticks after the setting t: any calls, each of the width in which it is passed in, each tick with the room that it
-- needs, and every further setting one that is refused
unfoldable pub Fits : Settings → ℕ → List Call → Type 0
Fits t k [] = Unit {0}
Fits t k (new_setting u ∷ cs) = OnWire (new_setting u) × (Valid u → ⊥) × Fits t k cs
Fits t k (frame a ∷ cs) = OnWire (frame a) × Fits t k cs
Fits t k (tick b ∷ cs) = Room t (suc k) b × Fits t (suc k) cs
Fits t k (clear ∷ cs) = Fits t k cs
Fits t k (send_LMM b ∷ cs) = Fits t k cs
Fits t k (send_DMM d b ∷ cs) = OnWire (send_DMM d b) × Fits t k cs
Fits t k (conditions ∷ cs) = Fits t k cs

-- each call of a run is so
unfoldable pub Each : (Call → Type 0) → List Call → Type 0
Each P [] = Unit {0}
Each P (c ∷ cs) = P c × Each P cs

-- how many ticks a run has
unfoldable pub ticks_in : List Call → ℕ
ticks_in [] = 0
ticks_in (new_setting t ∷ cs) = ticks_in cs
ticks_in (frame a ∷ cs) = ticks_in cs
ticks_in (tick b ∷ cs) = suc (ticks_in cs)
ticks_in (clear ∷ cs) = ticks_in cs
ticks_in (send_LMM b ∷ cs) = ticks_in cs
ticks_in (send_DMM t b ∷ cs) = ticks_in cs
ticks_in (conditions ∷ cs) = ticks_in cs

abbrev pub step : Box → State → Call → State
step B s c = (B s c).state

-- what the box left of any state s by a setting and the calls after it
abbrev pub since : Box → State → Settings → List Call → State
since B s t cs = after (step B) (B s (new_setting t)).state cs
