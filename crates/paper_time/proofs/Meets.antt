-- Time, of every box that follows the paper: the laws of `base_clock` on any timer and any period, over the box's runs. Assumes nothing.
use Prim.Native.Nat.{ℕ, suc, ◌≤◌, ◌∣◌}
use mathlib.Core.Path.{◌≡◌, refl, sym, ap, subst, ◌∙◌}
use mathlib.Core.List.{List, ◌∷◌, ◌++◌, map}
use mathlib.Core.Logic.{◌↔◌}
use native.Mathlib.Omega.{arith}
use lib.ListN.{length}
use Rattle.base_clock.specs.Run.{after, AllGood}
use Rattle.base_clock.specs.Timer.{ticks, moved, timer_after}
use Rattle.base_clock.specs.Beat.{counted, counter_after}
use Rattle.base_clock.proofs.Runs.{runs}
use Rattle.base_clock.proofs.Times.{times}
use Rattle.base_clock.proofs.Beats.{beats}
use Rattle.base_period.specs.Periods.{ticks_of}
use Rattle.state_settings.specs.Settings.{Settings}
use Rattle.state_settings.specs.Valid.{Valid}
use Rattle.state_view.specs.State.{State}
use Rattle.state_view.specs.WellFormed.{WellFormed}
use Rattle.call_setting.specs.Start.{start_of}
use Rattle.call_setting.proofs.Starts.{starts}
use Rattle.paper_said.specs.Calls as call
use Rattle.paper_said.specs.Calls.{Call, Outcome, Box}
use Rattle.paper_said.specs.Started.{Settable}
use Rattle.paper_said.specs.Said as said
use Rattle.paper_said.specs.Called as calling
use Rattle.paper_said.specs.Ours.{Follows}
use Rattle.paper_promised.specs.Refusals.{Refusal}
use Rattle.paper_promised.specs.Refusals as table
use Rattle.paper_said.proofs.Started.{fresh_own}
use Rattle.paper_promised.proofs.Promised.{promises}
use Rattle.paper_time.specs.Runs.{Due, Room, Fits, Each, ticks_in, step}
use Rattle.paper_time.specs.Timers.{mismerge, unexpected_level, unexpected_mep, unexpected_period, ais, lck, Timer, peer, of}
use Rattle.paper_time.specs.Timers.{Used, at_start, Sets, Unset}
use Rattle.paper_time.specs.Time.{Beat, Told, Stands, Time}
use Rattle.paper_time.proofs.Timers.{timer_of}
use Rattle.paper_time.proofs.Changes.{Holds}
use Rattle.paper_time.proofs.Ticked.{passing, Good}
use Rattle.paper_time.proofs.Steps.{ticked, stays, next_moves, moves, by-paper}
use Rattle.paper_time.proofs.Sets.{set_to}
use Rattle.paper_time.proofs.Runs.{passes-ticks, passes-no-set, all_split, all_both, some_tick, all-good}
use Rattle.paper_time.proofs.Answers.{beat_to, runs-stands, told_line}

-- ── any box ──

no-refusal : {s : State} {b : List ℕ} {n : ℕ} → WellFormed s → (s.next ≡ 1 → 89 ≤ length b) → Refusal s (call.tick b) n → ⊥
no-refusal w room (table.tick_2 b m) = m w
no-refusal w room (table.tick_3 b m e h) = omega (arith, room e, h)

begins : {B : Box} → Follows B → {t : Settings} → Settable t → (s : State) → (B s (call.new_setting t)).state ≡ start_of t
begins F {t} g s =
    ap (λ (o : Outcome). o.state)
    (F.follows s (call.new_setting t) _ g.handed (said.by_call (calling.setting_starts t (start_of t) g.valid (fresh_own t))))

module _ {B : Box} (F : Follows B) {t : Settings} (v : Valid t) where
  pub at-start : Holds t (start_of t)
  at-start = record { same = refl; well = starts.well t v; eight = (fresh_own t).slots_timers }

  -- the counter over a run, and what the run keeps
  counter_run : (cs : List Call) (s : State) → Holds t s → AllGood (step B) Good s cs
      → ((after (step B) s cs).next ≡ counter_after (ticks_of t.period) s.next (map passing cs)) × Holds t (after (step B) s cs)
  counter_run cs s H f =
      runs.watched (step B) (counted (ticks_of t.period)) (λ (z : State). z.next) passing (Holds t) Good
      (λ z c h g. next_moves F v h c g) (λ z c h g. stays F v h c g) cs s H f

  -- a timer over a run that does not set it
  timer-run : (x : Timer) (cs : List Call) (s : State) → Holds t s → AllGood (step B) Good s cs → Each (Unset t x) cs
      → timer_of x (after (step B) s cs) ≡ timer_after (timer_of x s) (map passing cs)
  timer-run x cs s H f n =
      (runs.watched (step B) moved (timer_of x) passing (Holds t) (λ z c. Good z c × Unset t x c)
      (λ z c h g. moves F v h x c g.0 g.1) (λ z c h g. stays F v h c g.0) cs s H (all_both (step B) Good (Unset t x) cs s f n)).0

  -- what is told after it, from a state where the timer is h
  told-run : (x : Timer) (cs : List Call) (s : State) (h : ℕ) → Holds t s → Used t x → AllGood (step B) Good s cs → Each (Unset t x) cs
      → timer_of x s ≡ h → Told x (Stands x h (ticks_in cs)) (B (after (step B) s cs) call.conditions).answer
  told-run x cs s h H u f n e =
      let z = after (step B) s cs in
      let y : timer_of x z ≡ timer_after h (map passing cs) = timer-run x cs s H f n ∙ ap (λ (k : ℕ). timer_after k (map passing cs)) e in
      let l : (timer_after h (map passing cs) ≡ 0) ↔ (h ≤ ticks (map passing cs)) = times.started h (map passing cs) (passes-no-set cs) in
      let m : (timer_of x z ≡ 0) ↔ (h ≤ ticks_in cs) = rw (y, ← passes-ticks cs) l in
      by-paper F z call.conditions tt (λ o. Told x (Stands x h (ticks_in cs)) o.answer)
      (λ o p. told_line (counter_run cs s H f).1 x u (runs-stands x (timer_of x z) h (ticks_in cs) m) p)

  pub start-timer : (x : Timer) → Used t x → timer_of x (start_of t) ≡ at_start t x
  start-timer (peer k) u = (fresh_own t).peers k u.0 u.1
  start-timer (of mismerge) u = refl
  start-timer (of unexpected_level) u = refl
  start-timer (of unexpected_mep) u = refl
  start-timer (of unexpected_period) u = refl
  start-timer (of ais) u = refl
  start-timer (of lck) u = refl

  -- ── a run since the setting ──

  since-start : (cs : List Call) → Fits t 0 cs → AllGood (step B) Good (start_of t) cs
  unfolding after
  since-start cs f = all-good F v cs 0 f (start_of t) at-start refl

  beat_run : (cs : List Call) (b : List ℕ) → Fits t 0 cs → Room t (suc (ticks_in cs)) b
      → Beat (Due t (suc (ticks_in cs))) (B (after (step B) (start_of t) cs) (call.tick b)).answer
  beat_run cs b f room =
      let p = ticks_of t.period in
      let r = counter_run cs (start_of t) at-start (since-start cs f) in
      let es = map passing cs in
      let l : (counter_after p p es ≤ 1) ↔ (p ∣ suc (ticks es)) = beats.full p es (some_tick F v) in
      let m : ((after (step B) (start_of t) cs).next ≤ 1) ↔ (p ∣ suc (ticks_in cs)) = rw (r.0, ← passes-ticks cs) l in
      beat_to m (ticked F v r.1 b (λ n. room (m.0 n))).answer

  never-run : (x : Timer) (cs : List Call) → Used t x → Fits t 0 cs → Each (Unset t x) cs
      → Told x (Stands x (at_start t x) (ticks_in cs)) (B (after (step B) (start_of t) cs) call.conditions).answer
  never-run x cs u f n = told-run x cs (start_of t) (at_start t x) at-start u (since-start cs f) n (start-timer x u)

  set-run : (x : Timer) (before : List Call) (c : Call) (h : ℕ) (cs : List Call) → Used t x → Fits t 0 (before ++ (c ∷ cs)) → Sets t x c h
      → Each (Unset t x) cs → Told x (Stands x h (ticks_in cs)) (B (after (step B) (start_of t) (before ++ (c ∷ cs))) call.conditions).answer
  unfolding after
  set-run x before c h cs u f p n =
      let g = all_split (step B) Good before c cs (start_of t) (since-start (before ++ (c ∷ cs)) f) in
      let z = after (step B) (start_of t) before in
      let H = (counter_run before (start_of t) at-start g.0).1 in
      subst (λ (y : State). Told x (Stands x h (ticks_in cs)) (B y call.conditions).answer)
      (sym (runs.joins (step B) (start_of t) before (c ∷ cs)))
      (told-run x cs (B z c).state h (stays F v H c g.1.0) u g.1.1 n (set_to F v H g.1.0 u p))

pub in_time : (B : Box) → Follows B → Time B
in_time B F = record {
  takes = λ s b n w room e. no-refusal w room (((promises.kept B F).refuses s (call.tick b) n tt).0 e);
  beats = λ s t cs b g f room.
      subst (λ (z : State). Beat (Due t (suc (ticks_in cs))) (B (after (step B) z cs) (call.tick b)).answer) (sym (begins F g s))
      (beat_run F g.valid cs b f room);
  never = λ s t x cs g f u n.
      subst (λ (z : State). Told x (Stands x (at_start t x) (ticks_in cs)) (B (after (step B) z cs) call.conditions).answer)
      (sym (begins F g s)) (never-run F g.valid x cs u f n);
  last = λ s t x before c h cs g f u p n.
      subst (λ (z : State). Told x (Stands x h (ticks_in cs)) (B (after (step B) z (before ++ (c ∷ cs))) call.conditions).answer)
      (sym (begins F g s)) (set-run F g.valid x before c h cs u f p n);
}
