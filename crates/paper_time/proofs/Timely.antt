-- The statement of specs/Time.antt: whether a call sets a timer can always be told, so that no run is left out. Assumes nothing.
use Prim.Native.Nat.{ℕ, ◌-◌, ◌≤◌}
use mathlib.Core.Path.{◌≡◌, refl, sym, ap, ◌∙◌}
use mathlib.Core.Bool.{Bool, true, false, true≢false}
use mathlib.Core.List.{List, [], ◌∷◌}
use mathlib.Core.Logic.{⊎_elim, ◌⊎◌, inl, inr}
use native.Mathlib.Omega.{arith}
use lib.ListN.{replicate}
use Rattle.base_period.specs.Periods.{hold_of}
use Rattle.base_period.proofs.Laws.{period_laws}
use Rattle.state_settings.specs.Settings.{Settings}
use Rattle.state_settings.specs.Valid.{Valid}
use Rattle.state_view.specs.State.{State}
use Rattle.call_setting.specs.Start.{start_of}
use Rattle.paper_said.specs.Calls as call
use Rattle.paper_said.specs.Calls.{Arrival, Call, OnWire}
use Rattle.paper_said.specs.Cases.{OneOf}
use Rattle.paper_said.specs.Ours.{ours}
use Rattle.paper_said.proofs.Follows.{ours-follows}
use Rattle.paper_said.proofs.Rows.{first, none}
use Rattle.paper_time.specs.Runs.{Each}
use Rattle.paper_time.specs.Timers.{Timer, Used, at_start, Sets, Unset}
use Rattle.paper_time.specs.Timers as sets
use Rattle.paper_time.specs.Time.{LastSet, unset, split, Timely}
use Rattle.paper_time.proofs.Timers.{timer_of}
use Rattle.paper_time.proofs.Changes.{Holds}
use Rattle.paper_time.proofs.Steps.{ticked, stays, either}
use Rattle.paper_time.proofs.Sets.{set_to}
use Rattle.paper_time.proofs.Meets.{at-start, start-timer, in_time}

-- a period's hold time is some ticks
some-hold : (code : ℕ) → 1 ≤ code → code ≤ 7 → 1 ≤ hold_of code
some-hold code h k = omega (arith, period_laws.hold_rule code, (period_laws.some code).1 (h, k))

alarm-hold : (code : ℕ) → OneOf code (4 ∷ 6 ∷ []) → 1 ≤ hold_of code
alarm-hold code o =
    ⊎_elim
    (λ (e : code ≡ 4). some-hold code (omega (arith, e)) (omega (arith, e)))
    (λ (p : OneOf code (6 ∷ [])). ⊎_elim (λ (e : code ≡ 6). some-hold code (omega (arith, e)) (omega (arith, e)))
    (λ (q : OneOf code []). absurd (none q)) (first p))
    (first o)

-- a timer that a call sets is not what a tick left of it at the start
apart : {t : Settings} {x : Timer} {c : Call} {h : ℕ} → Valid t → Sets t x c h → h ≡ at_start t x - 1 → ⊥
apart {t} v (sets.lower_ccm a o e k g) z = omega (arith, z, some-hold t.period v.some_period v.period)
apart {t} v (sets.other_meg a k m) z = omega (arith, z, some-hold t.period v.some_period v.period)
apart {t} v (sets.no_peer a k m n) z = omega (arith, z, some-hold t.period v.some_period v.period)
apart {t} v (sets.from_peer a k p) z = omega (arith, z, some-hold t.period v.some_period v.period)
apart {t} v (sets.other_period a k p n) z = omega (arith, z, some-hold t.period v.some_period v.period)
apart {t} v (sets.alarm a l q e o) z = omega (arith, z, alarm-hold _ o)
apart {t} v (sets.locked a l q e o) z = omega (arith, z, alarm-hold _ o)

-- only a frame sets a timer
is_frame : Call → Bool
is_frame (call.new_setting t) = false
is_frame (call.frame a) = true
is_frame (call.tick b) = false
is_frame call.clear = false
is_frame (call.send_LMM b) = false
is_frame (call.send_DMM d b) = false
is_frame call.conditions = false

only_frames : {t : Settings} {x : Timer} {c : Call} {h : ℕ} → Sets t x c h → is_frame c ≡ true
unfolding is_frame
only_frames (sets.lower_ccm a o e k g) = refl
only_frames (sets.other_meg a k m) = refl
only_frames (sets.no_peer a k m n) = refl
only_frames (sets.from_peer a k p) = refl
only_frames (sets.other_period a k p n) = refl
only_frames (sets.alarm a l q e o) = refl
only_frames (sets.locked a l q e o) = refl

no-frame : {t : Settings} {x : Timer} {c : Call} → is_frame c ≡ false → Unset t x c
no-frame e h p = true≢false (sym (only_frames p) ∙ e)

module _ (t : Settings) (x : Timer) (v : Valid t) (u : Used t x) where
  -- the state after a first tick
  abbrev room : List ℕ
  room = replicate 89 0

  abbrev once : State
  once = (ours (start_of t) (call.tick room)).state

  holds-once : Holds t once
  holds-once = stays ours-follows.box v (at-start ours-follows.box v) (call.tick room) (λ l. omega arith)

  timer-once : timer_of x once ≡ at_start t x - 1
  timer-once =
      (ticked ours-follows.box v (at-start ours-follows.box v) room (λ l. omega arith)).timers x
      ∙ ap (λ (n : ℕ). n - 1) (start-timer ours-follows.box v x u)

  -- by what our box does to the timer
  by-frame : (a : Arrival) → OnWire (call.frame a) → ((h : ℕ) × Sets t x (call.frame a) h) ⊎ Unset t x (call.frame a)
  by-frame a f =
      ⊎_elim
      (λ (p : (h : ℕ) × Sets t x (call.frame a) h). inl p)
      (λ (p : timer_of x (ours once (call.frame a)).state ≡ timer_of x once).
      inr (λ h q. apart v q (sym (set_to ours-follows.box v holds-once f u q) ∙ p ∙ timer-once)))
      (either ours-follows.box v holds-once x (call.frame a) f)

  decides : (c : Call) → OnWire c → ((h : ℕ) × Sets t x c h) ⊎ Unset t x c
  unfolding is_frame
  decides (call.new_setting d) f = inr (no-frame refl)
  decides (call.frame a) f = by-frame a f
  decides (call.tick b) f = inr (no-frame refl)
  decides call.clear f = inr (no-frame refl)
  decides (call.send_LMM b) f = inr (no-frame refl)
  decides (call.send_DMM d b) f = inr (no-frame refl)
  decides call.conditions f = inr (no-frame refl)

  add : (c : Call) (cs : List Call) → OnWire c → LastSet t x cs → LastSet t x (c ∷ cs)
  unfolding Each
  add c cs f (unset ds n) =
      ⊎_elim
      (λ (p : (h : ℕ) × Sets t x c h). split [] c p.0 ds p.1 n)
      (λ (p : Unset t x c). unset (c ∷ ds) (p, n))
      (decides c f)
  add c cs f (split before d h ds p n) = split (c ∷ before) d h ds p n

  last_set : (cs : List Call) → Each OnWire cs → LastSet t x cs
  unfolding Each
  last_set [] f = unset [] tt
  last_set (c ∷ cs) f = add c cs f.0 (last_set cs f.1)

pub timely : Timely
timely = record { every = in_time; our_box = in_time ours ours-follows.box; all = λ t x cs v f u. last_set t x v u cs f }
