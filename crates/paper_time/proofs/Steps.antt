-- One call of a box that follows the paper: what it does to a timer and to the counter, and that the state keeps its settings and slots.
-- Assumes nothing.
use Prim.Native.Nat.{ℕ}
use mathlib.Core.Path.{◌≡◌, sym, ap, subst, ◌∙◌}
use mathlib.Core.List.{List}
use mathlib.Core.Logic.{⊎_elim, ◌⊎◌, inr}
use lib.ListN.{length}
use Rattle.base_clock.specs.Timer.{moved}
use Rattle.base_clock.specs.Beat.{counted}
use Rattle.base_period.specs.Periods.{ticks_of}
use Rattle.state_settings.specs.Settings.{Settings, slots}
use Rattle.state_settings.specs.Valid.{Valid}
use Rattle.state_view.specs.State.{State}
use Rattle.paper_said.specs.Calls as call
use Rattle.paper_said.specs.Calls.{Call, Outcome, OnWire, Box}
use Rattle.paper_said.specs.Said.{Said}
use Rattle.paper_said.specs.Ours.{Follows}
use Rattle.paper_said.proofs.Every.{every_call}
use Rattle.paper_promised.proofs.Promised.{promises}
use Rattle.paper_time.specs.Timers.{Timer, Sets, Unset}
use Rattle.paper_time.proofs.Timers.{timer_of}
use Rattle.paper_time.proofs.Changes.{Holds, Change}
use Rattle.paper_time.proofs.Lines.{frame-line, clear-line, lmm-line, dmm-line, conditions-line}
use Rattle.paper_time.proofs.Ticked.{passing, Good, wire, Ticked, tick-line}

module _ {B : Box} (F : Follows B) where
  -- ── any box ──

  -- what holds of all that the paper says of a call holds of what the box leaves
  pub by-paper : (s : State) (c : Call) → OnWire c → (P : Outcome → Type 0) → ((o : Outcome) → Said s c o → P o) → P (B s c)
  by-paper s c u P f =
      let x = every_call s c u in
      subst P (sym (F.follows s c x.0 u x.1)) (f x.0 x.1)

  module _ {t : Settings} {s : State} (v : Valid t) (H : Holds t s) where
    pub ticked : (b : List ℕ) → Good s (call.tick b) → Ticked t s (B s (call.tick b)).state (B s (call.tick b)).answer
    ticked b room = by-paper s (call.tick b) tt (λ o. Ticked t s o.state o.answer) (λ o p. tick-line H room p)

    -- any other call
    abbrev Changed : Call → Outcome → Type 0
    Changed c o = Change t s c o.state

    record Kept (c : Call) (z : State) : Type 0 where
      pub settings : z.settings ≡ s.settings
      pub slots : length z.timers ≡ length s.timers
      pub next : z.next ≡ counted (ticks_of t.period) s.next (passing c)
      pub timers : (x : Timer) → ((h : ℕ) × Sets t x c h) ⊎ (timer_of x z ≡ moved (timer_of x s) (passing c))

    kept : (c : Call) → Good s c → Kept c (B s c).state
    kept (call.new_setting d) f = let z = (promises.kept B F).zeros s d f.0 f.1 in
        let e : (B s (call.new_setting d)).state ≡ s = ap (λ (o : Outcome). o.state) z.2 in
        record {
          settings = ap (λ (x : State). x.settings) e;
          slots = ap (λ (x : State). length x.timers) e;
          next = ap (λ (x : State). x.next) e;
          timers = λ y. inr (ap (timer_of y) e);
        }
    kept (call.frame a) f = let x = by-paper s (call.frame a) f (Changed (call.frame a)) (λ o p. frame-line v H p) in
        record { settings = x.settings; slots = x.slots; next = x.next; timers = x.timers }
    kept (call.tick b) f = let x = ticked b f in
        record { settings = x.settings; slots = x.slots; next = x.next; timers = λ y. inr (x.timers y) }
    kept call.clear f = let x = by-paper s (call.clear) tt (Changed call.clear) (λ o p. clear-line v H p) in
        record { settings = x.settings; slots = x.slots; next = x.next; timers = x.timers }
    kept (call.send_LMM b) f = let x = by-paper s (call.send_LMM b) tt (Changed (call.send_LMM b)) (λ o p. lmm-line v H p) in
        record { settings = x.settings; slots = x.slots; next = x.next; timers = x.timers }
    kept (call.send_DMM d b) f = let x = by-paper s (call.send_DMM d b) f (Changed (call.send_DMM d b)) (λ o p. dmm-line v H p) in
        record { settings = x.settings; slots = x.slots; next = x.next; timers = x.timers }
    kept call.conditions f = let x = by-paper s (call.conditions) tt (Changed call.conditions) (λ o p. conditions-line v H p) in
        record { settings = x.settings; slots = x.slots; next = x.next; timers = x.timers }

    pub stays : (c : Call) → Good s c → Holds t (B s c).state
    stays c f = record {
      same = (kept c f).settings ∙ H.same;
      well = (promises.kept B F).stays s c (wire s c f) H.well;
      eight = (kept c f).slots ∙ H.eight;
    }

    pub next_moves : (c : Call) → Good s c → (B s c).state.next ≡ counted (ticks_of t.period) s.next (passing c)
    next_moves c f = (kept c f).next

    -- each timer is set or moves on
    pub either : (x : Timer) (c : Call) → Good s c → ((h : ℕ) × Sets t x c h) ⊎ (timer_of x (B s c).state ≡ moved (timer_of x s) (passing c))
    either x c f = (kept c f).timers x

    pub moves : (x : Timer) (c : Call) → Good s c → Unset t x c → timer_of x (B s c).state ≡ moved (timer_of x s) (passing c)
    moves x c f n =
        ⊎_elim
        (λ (p : (h : ℕ) × Sets t x c h). absurd (n p.0 p.1))
        (λ (p : timer_of x (B s c).state ≡ moved (timer_of x s) (passing c)). p)
        (either x c f)
