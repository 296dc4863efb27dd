-- Runs of calls: as events of a timer that they do not set, in two parts; and that each tick has room where the state that it meets asks
-- for
-- it. Assumes nothing.
use Prim.Native.Nat.{ℕ, zero, suc, ◌≤◌, ◌∣◌}
use mathlib.Core.Path.{◌≡◌, refl, sym, ap, subst, ◌∙◌}
use mathlib.Core.List.{List, [], ◌∷◌, ◌++◌, map}
use mathlib.Core.Logic.{◌↔◌}
use lib.ListN.{replicate}
use Rattle.base_clock.specs.Run.{after, AllGood}
use Rattle.base_clock.specs.Timer.{ticks, NoSet}
use Rattle.base_clock.specs.Timer as event
use Rattle.base_clock.specs.Beat.{next_count, counted, counter_after}
use Rattle.base_clock.proofs.Beats.{beats}
use Rattle.base_period.specs.Periods.{ticks_of}
use Rattle.base_period.proofs.Laws.{period_laws}
use Rattle.state_settings.specs.Settings.{Settings}
use Rattle.state_settings.specs.Valid.{Valid}
use Rattle.state_view.specs.State.{State}
use Rattle.paper_said.specs.Calls as call
use Rattle.paper_said.specs.Calls.{Call, OnWire, Box}
use Rattle.paper_said.specs.Ours.{Follows}
use Rattle.paper_time.specs.Runs.{Fits, Each, ticks_in, step}
use Rattle.paper_time.proofs.Changes.{Holds}
use Rattle.paper_time.proofs.Ticked.{passing, Good}
use Rattle.paper_time.proofs.Steps.{stays, next_moves}

-- ── events ──

pub passes-ticks : (cs : List Call) → ticks (map passing cs) ≡ ticks_in cs
unfolding ticks ticks_in
passes-ticks [] = refl
passes-ticks (call.new_setting t ∷ cs) = passes-ticks cs
passes-ticks (call.frame a ∷ cs) = passes-ticks cs
passes-ticks (call.tick b ∷ cs) = ap suc (passes-ticks cs)
passes-ticks (call.clear ∷ cs) = passes-ticks cs
passes-ticks (call.send_LMM b ∷ cs) = passes-ticks cs
passes-ticks (call.send_DMM d b ∷ cs) = passes-ticks cs
passes-ticks (call.conditions ∷ cs) = passes-ticks cs

pub passes-no-set : (cs : List Call) → NoSet (map passing cs)
unfolding NoSet
passes-no-set [] = tt
passes-no-set (call.new_setting t ∷ cs) = passes-no-set cs
passes-no-set (call.frame a ∷ cs) = passes-no-set cs
passes-no-set (call.tick b ∷ cs) = passes-no-set cs
passes-no-set (call.clear ∷ cs) = passes-no-set cs
passes-no-set (call.send_LMM b ∷ cs) = passes-no-set cs
passes-no-set (call.send_DMM d b ∷ cs) = passes-no-set cs
passes-no-set (call.conditions ∷ cs) = passes-no-set cs

-- ── what each call of a run is ──

pub wires : (t : Settings) (k : ℕ) (cs : List Call) → Fits t k cs → Each OnWire cs
unfolding Fits Each
wires t k [] f = tt
wires t k (call.new_setting u ∷ cs) f = (f.0, wires t k cs f.2)
wires t k (call.frame a ∷ cs) f = (f.0, wires t k cs f.1)
wires t k (call.tick b ∷ cs) f = (tt, wires t (suc k) cs f.1)
wires t k (call.clear ∷ cs) f = (tt, wires t k cs f)
wires t k (call.send_LMM b ∷ cs) f = (tt, wires t k cs f)
wires t k (call.send_DMM d b ∷ cs) f = (f.0, wires t k cs f.1)
wires t k (call.conditions ∷ cs) f = (tt, wires t k cs f)

module _ {S C : Type 0} (go : S → C → S) (P : S → C → Type 0) where
  pub all_split : (before : List C) (c : C) (cs : List C) (s : S) → AllGood go P s (before ++ (c ∷ cs))
      → AllGood go P s before × (P (after go s before) c × AllGood go P (go (after go s before) c) cs)
  unfolding after AllGood
  all_split [] c cs s g = (tt, g)
  all_split (d ∷ before) c cs s g = let r = all_split before c cs (go s d) g.1 in ((g.0, r.0), r.1)

pub all_both : (go : State → Call → State) (P : State → Call → Type 0) (Q : Call → Type 0) (cs : List Call) (s : State)
    → AllGood go P s cs → Each Q cs → AllGood go (λ z c. P z c × Q c) s cs
unfolding AllGood Each
all_both go P Q [] s g q = tt
all_both go P Q (c ∷ cs) s g q = ((g.0, q.0), all_both go P Q cs (go s c) g.1 q.1)

-- ── the counter k ticks after a setting ──

abbrev pub left : ℕ → ℕ → ℕ
left p k = counter_after p p (replicate k event.tick)

a-tick-more : (p k c : ℕ) → counter_after p c (replicate (suc k) event.tick) ≡ next_count p (counter_after p c (replicate k event.tick))
unfolding after
a-tick-more p zero c = refl
a-tick-more p (suc k) c = a-tick-more p k (next_count p c)

so_many : (k : ℕ) → ticks (replicate k event.tick) ≡ k
unfolding ticks
so_many zero = refl
so_many (suc k) = ap suc (so_many k)

-- the next tick sends exactly when the period divides its number
left_due : (p k : ℕ) → 1 ≤ p → (left p k ≤ 1) ↔ (p ∣ suc k)
left_due p k h = subst (λ (n : ℕ). (left p k ≤ 1) ↔ (p ∣ suc n)) (so_many k) (beats.full p (replicate k event.tick) h)

module _ {B : Box} (F : Follows B) {t : Settings} (v : Valid t) where
  pub some_tick : 1 ≤ ticks_of t.period
  some_tick = (period_laws.some t.period).1 (v.some_period, v.period)

  one_more : (c : Call) (cs : List Call) (s : State) (n : ℕ) → Holds t s → Good s c
      → counted (ticks_of t.period) s.next (passing c) ≡ n
      → ((z : State) → Holds t z → z.next ≡ n → AllGood (step B) Good z cs) → Good s c × AllGood (step B) Good (step B s c) cs
  one_more c cs s n H g e rest = (g, rest (step B s c) (stays F v H c g) (next_moves F v H c g ∙ e))

  -- a run that fits, from a state k ticks after the setting: each call is good in the state that it meets
  pub all-good : (cs : List Call) (k : ℕ) → Fits t k cs → (s : State) → Holds t s → s.next ≡ left (ticks_of t.period) k
      → AllGood (step B) Good s cs
  unfolding Fits AllGood
  all-good [] k f s H e = tt
  all-good (call.new_setting u ∷ cs) k f s H e = one_more (call.new_setting u) cs s _ H (f.0, f.1) e (all-good cs k f.2)
  all-good (call.frame a ∷ cs) k f s H e = one_more (call.frame a) cs s _ H f.0 e (all-good cs k f.1)
  all-good (call.tick b ∷ cs) k f s H e =
      let p = ticks_of t.period in
      let g : Good s (call.tick b) = λ (l : s.next ≤ 1). f.0 ((left_due p k some_tick).0 (rw (← e) l)) in
      one_more (call.tick b) cs s _ H g (ap (next_count p) e ∙ sym (a-tick-more p k p)) (all-good cs (suc k) f.1)
  all-good (call.clear ∷ cs) k f s H e = one_more call.clear cs s _ H tt e (all-good cs k f)
  all-good (call.send_LMM b ∷ cs) k f s H e = one_more (call.send_LMM b) cs s _ H tt e (all-good cs k f)
  all-good (call.send_DMM d b ∷ cs) k f s H e = one_more (call.send_DMM d b) cs s _ H f.0 e (all-good cs k f.1)
  all-good (call.conditions ∷ cs) k f s H e = one_more call.conditions cs s _ H tt e (all-good cs k f)
