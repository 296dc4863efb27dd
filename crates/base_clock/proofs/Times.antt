-- The statements of specs/Timer.antt. Assumes nothing.
use Prim.Native.Nat.{ℕ, zero, suc, ◌-◌, ◌≤◌, ◌<◌}
use mathlib.Core.Path.{◌≡◌, refl, ap, ◌∙◌}
use mathlib.Core.Logic.{◌↔◌}
use mathlib.Core.List.{List, [], ◌∷◌, ◌++◌, map}
use native.Mathlib.Omega.{arith}
use lib.ListN.{replicate}
use Rattle.base_clock.specs.Timer.{Event, tick, set_to, other, moved, timer_after, ticks, NoSet, LastSet, never, last, Times}
use Rattle.base_clock.specs.Run.{after}

-- a timer that nothing sets is lowered by the ticks
pub unset-is : (es : List Event) (t : ℕ) → NoSet es → timer_after t es ≡ t - ticks es
unfolding after ticks NoSet
unset-is [] t n = omega arith
unset-is (tick ∷ es) t n = unset-is es (t - 1) n ∙ omega arith
unset-is (set_to h ∷ es) t n = absurd n
unset-is (other ∷ es) t n = unset-is es t n

-- after a set only what follows it counts
pub set_is : (before : List Event) (t h : ℕ) (since : List Event) → NoSet since
    → timer_after t (before ++ (set_to h ∷ since)) ≡ h - ticks since
unfolding after
set_is [] t h since n = unset-is since h n
set_is (e ∷ es) t h since n = set_is es (moved t e) h since n

pub last_set : {C : Type 0} (event : C → Event) (cs : List C) → LastSet event cs
unfolding NoSet
last_set {C} event [] = never [] tt
last_set {C} event (c ∷ cs) = add cs (last_set event cs)
  where
    here : (e : Event) (cs : List C) → event c ≡ e → NoSet (map event cs) → LastSet event (c ∷ cs)
    here tick cs q n = never (c ∷ cs) (rw q n)
    here (set_to h) cs q n = last [] c h cs q n
    here other cs q n = never (c ∷ cs) (rw q n)

    add : (cs : List C) → LastSet event cs → LastSet event (c ∷ cs)
    add cs (never ds n) = here (event c) ds refl n
    add cs (last before d h since q n) = last (c ∷ before) d h since q n

lowered : (n t : ℕ) → timer_after t (replicate n tick) ≡ t - n
unfolding after
lowered zero t = omega arith
lowered (suc n) t = lowered n (t - 1) ∙ omega arith

kept : (t : ℕ) → timer_after t (other ∷ []) ≡ t
unfolding after
kept t = refl

map-append : {A B : Type 0} (f : A → B) (l m : List A) → map f (l ++ m) ≡ map f l ++ map f m
map-append f [] m = refl
map-append {A} {B} f (x ∷ l) m = ap (λ (r : List B). f x ∷ r) (map-append f l m)

module _ {C : Type 0} (event : C → Event) (t : ℕ) (before : List C) (c : C) (h : ℕ) (since : List C) (e : event c ≡ set_to h)
    (n : NoSet (map event since)) where
  -- the timer after a run of calls whose last set is c
  run_is : timer_after t (map event (before ++ (c ∷ since))) ≡ h - ticks (map event since)
  run_is = rw (map-append event before (c ∷ since), e) (set_is (map event before) t h (map event since) n)

  runs : (0 < timer_after t (map event (before ++ (c ∷ since)))) ↔ (ticks (map event since) < h)
  runs = rw run_is (omega arith)

  ends : (timer_after t (map event (before ++ (c ∷ since))) ≡ 0) ↔ (h ≤ ticks (map event since))
  ends = rw run_is (omega arith)

pub times : Times
times = record {
  lowered = lowered;
  kept = kept;
  runs = runs;
  ends = ends;
  started = λ h since n. rw (unset-is since h n) (omega arith);
  unset = λ since n. rw (unset-is since 0 n) (omega arith);
  all = last_set;
}
