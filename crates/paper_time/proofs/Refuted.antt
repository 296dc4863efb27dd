-- Boxes that are out of time, by a setting and runs that are written out. Assumes nothing.
use Prim.Native.Nat.{ℕ, ◌%◌, ◌≤◌, ◌∣◌}
use mathlib.Core.Path.{◌≡◌, refl, ap, subst}
use mathlib.Core.Bool.{Bool, true, cond, false≢true}
use mathlib.Core.List.{List, [], ◌∷◌}
use native.Mathlib.Omega.{arith}
use native.Mathlib.Nat.{mod-eq-zero_of_dvd, dvd-mul_left}
use lib.ListN.{length, replicate}
use Rattle.base_clock.specs.Run.{after}
use Rattle.base_period.specs.Periods.{ticks_of}
use Rattle.state_settings.proofs.Rules.{valid_is}
use Rattle.state_view.specs.State.{State}
use Rattle.state_view.specs.Changed.{next}
use Rattle.state_view.specs.WellFormed.{WellFormed}
use Rattle.call_setting.specs.Start.{zero_state}
use Rattle.paper_said.specs.Calls as call
use Rattle.paper_said.specs.Calls.{Call, Answer, refused, done, Outcome, NoSetting, Box}
use Rattle.paper_said.specs.Said as said
use Rattle.paper_said.specs.Called as calling
use Rattle.paper_said.specs.Said.{Said}
use Rattle.paper_said.specs.Ours.{ours}
use Rattle.paper_said.proofs.Follows.{ours-follows}
use Rattle.paper_promised.proofs.Kept.{put-well}
use Rattle.paper_promised.proofs.Apart.{code_of, is_written}
use Rattle.paper_promised.proofs.Example.{setting, good, settable, start, well}
use Rattle.paper_time.specs.Runs.{Fits, ticks_in}
use Rattle.paper_time.specs.Time.{Beat, sends, quiet, Time}
use Rattle.paper_time.specs.Wrong.{sooner, early, OutOfTime}
use Rattle.paper_time.proofs.Steps.{by-paper}

abbrev room : List ℕ
room = replicate 89 0

abbrev once : Call
once = call.tick room

-- ── what an answer shows ──

sent_then : {P : Type 0} {r : Answer} → Beat P r → is_written r ≡ true → P
unfolding code_of
sent_then (sends p) e = p
sent_then (quiet n) e = absurd (false≢true e)

then_sent : {P : Type 0} {r : Answer} → Beat P r → P → is_written r ≡ true
unfolding code_of
then_sent (sends p) q = refl
then_sent (quiet n) q = absurd (n q)

-- the first tick is no period's last
odd : 2 ∣ 1 → ⊥
odd d =
    let e : 1 % 2 ≡ 0 = mod-eq-zero_of_dvd 2 d in
    absurd (omega (arith, e))

-- ── a tick early: the setting, and one tick ──

-- what the setting leaves
abbrev begun : Box → State
begun B = (B zero_state (call.new_setting setting)).state

-- and of this box
abbrev short : State
short = sooner start

begins-short : begun early ≡ short
begins-short =
    ap (λ (b : Bool). (cond b (call.hands_out done short short) (ours zero_state (call.new_setting setting))).state)
    ((valid_is.valid_is setting).1 good)

short-well : WellFormed short
unfolding ticks_of
short-well =
    put-well start next _ (record {
      own = λ h. absurd (omega arith);
      alarm = λ h k. absurd (omega arith);
      some = λ e. omega arith;
      next = λ e. omega arith;
    }) well

sends-line : {b : List ℕ} {o : Outcome} → 89 ≤ length b → Said short (call.tick b) o → is_written o.answer ≡ true
unfolding code_of ticks_of
sends-line h (said.by_call (calling.tick_2 b n)) = absurd (n short-well)
sends-line h (said.by_call (calling.tick_lowers b w l)) = absurd (omega (arith, l))
sends-line h (said.by_call (calling.tick_3 b w e l)) = absurd (omega (arith, h, l))
sends-line h (said.by_call (calling.tick_sends b rdi w e l f)) = refl

sends-short : is_written (ours short once).answer ≡ true
sends-short = by-paper ours-follows.box short once tt (λ o. is_written o.answer ≡ true) (λ o p. sends-line (omega arith) p)

a_tick_early : Time early → ⊥
unfolding after Fits ticks_in ticks_of
a_tick_early T =
    let b : Beat (2 ∣ 1) (early (begun early) once).answer = T.beats zero_state setting [] room settable tt (λ d. omega arith) in
    let c : Beat (2 ∣ 1) (early short once).answer = subst (λ (z : State). Beat (2 ∣ 1) (early z once).answer) begins-short b in
    odd (sent_then c sends-short)

-- ── refuses ticks, or those without room: the state that the setting starts with, two ticks before its CCM, and one tick ──

refuses_ticks : (B : Box) → ((s : State) (b : List ℕ) → (n : ℕ) × ((B s (call.tick b)).answer ≡ refused n)) → Time B → ⊥
refuses_ticks B all T =
    let r = all start room in
    T.takes start room r.0 well (λ e. omega arith) r.1

no_room : (B : Box) → (n : ℕ) × ((B start (call.tick [])).answer ≡ refused n) → Time B → ⊥
unfolding ticks_of
no_room B r T = T.takes start [] r.0 well (λ e. absurd (omega (arith, e))) r.1

-- ── touches nothing: the two ticks after the setting meet the same state, and only the second sends ──

no_setting : (b : List ℕ) → NoSetting (call.tick b)
unfolding ticks_in
no_setting b t e =
    let n : ◌≡◌ {A = ℕ} 1 0 = ap (λ (c : Call). ticks_in (c ∷ [])) e in
    omega (arith, n)

two-ticks : (B : Box) → (B (begun B) once).state ≡ begun B → Time B → ⊥
unfolding after Fits ticks_in ticks_of
two-ticks B same T =
    let y : State = begun B in
    let first : Beat (2 ∣ 1) (B y once).answer = T.beats zero_state setting [] room settable tt (λ d. omega arith) in
    let second : Beat (2 ∣ 2) (B (B y once).state once).answer =
    T.beats zero_state setting (once ∷ []) room settable ((λ d. omega arith), tt) (λ d. omega arith) in
    let again : Beat (2 ∣ 2) (B y once).answer = subst (λ (z : State). Beat (2 ∣ 2) (B z once).answer) same second in
    odd (sent_then first (then_sent again (dvd-mul_left 2 1)))

pub out-of_time : OutOfTime
out-of_time = record {
  a_tick_early = a_tick_early;
  refuses_ticks = refuses_ticks;
  wants_room = λ B all T. no_room B (all start [] (omega arith)) T;
  touches_nothing = λ B all T. two-ticks B (all (begun B) once (no_setting room)) T;
}
