-- A run of demand 3 starts at every clear. Assumes nothing.
use Prim.Native.Nat.{ℕ, ◌+◌, ◌%◌, ◌^◌}
use mathlib.Core.Path.{◌≡◌, sym, ap, ◌∙◌}
use mathlib.Core.Bool.{Bool, true, false, true≢false}
use mathlib.Core.List.{List, [], ◌∷◌}
use native.Mathlib.Omega.{arith}
use Rattle.base_clock.specs.Run.{after}
use Rattle.state_view.specs.State.{State}
use Rattle.state_view.specs.WellFormed.{WellFormed}
use Rattle.paper_said.specs.Calls as call
use Rattle.paper_said.specs.Calls.{Call, NoSetting, Box}
use Rattle.paper_loss.specs.Runs.{run, Each, Event, other, Is, is_other, Events, none, next, received_in, sent_in}
use Rattle.paper_loss.specs.Demand3.{Demand3}
use Rattle.paper_loss.specs.Meets.{FromAnyClear}
use Rattle.paper_loss.proofs.Same.{is-to}

events-to : (s y : State) (cs : List Call) (es : List Event) → WellFormed s → WellFormed y → s.settings ≡ y.settings → Events s cs es
    → Events y cs es
events-to s y cs es v w t none = none
events-to s y cs es v w t (next c e ds fs i rest) = next c e ds fs (is-to s y c e v w t i) (events-to s y ds fs v w t rest)

is_clear : Call → Bool
is_clear (call.new_setting t) = false
is_clear (call.frame a) = false
is_clear (call.tick b) = false
is_clear call.clear = true
is_clear (call.send_LMM b) = false
is_clear (call.send_DMM t b) = false
is_clear call.conditions = false

clear-is : (s : State) → Is s call.clear other
unfolding is_clear
clear-is s = is_other call.clear (λ a q. absurd (true≢false (ap is_clear q)))

clear-no_setting : NoSetting call.clear
unfolding is_clear
clear-no_setting t q = true≢false (ap is_clear q)

plus_zero : (n : ℕ) → n + 0 ≡ n
plus_zero n = omega arith

-- a clear leaves the received count
count_left : (B : Box) → Demand3 B → (n m : ℕ) (y : State) → y.received ≡ n % 2 ^ 32 → y.sent ≡ m % 2 ^ 32
    → (B y call.clear).state.received ≡ n % 2 ^ 32
unfolding after Each received_in
count_left B d n m y h g =
    (d.counts n m y (call.clear ∷ []) (other ∷ []) h g (tt, tt) (clear-no_setting, tt) (next call.clear other [] [] (clear-is y) none)).0
    ∙ ap (λ (x : ℕ). x % 2 ^ 32) (plus_zero n)

pub from_any_clear : FromAnyClear
from_any_clear B d n m s before fs cs es w h g u k v u' k' j v' =
    let y = run B s before in
    let kept = d.keeps s before w u k in
    let counted = d.counts n m s before fs h g u k v in
    let b = d.after_clear y kept.0 in
    let e : s.settings ≡ (B y call.clear).state.settings = sym (b.settings ∙ kept.1) in
    record {
      well = b.well;
      cleared = b.cleared;
      count = count_left B d (n + received_in fs) (m + sent_in fs) y counted.0 counted.1;
      wire = u';
      no_setting = k';
      no_clear = j;
      events = events-to s (B y call.clear).state cs es w b.well e v';
    }
