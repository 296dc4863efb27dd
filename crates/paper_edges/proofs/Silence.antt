-- The edge of period code 1: a peer that is never heard, over a run of the tick itself. Assumes nothing.
use Prim.Native.Nat.{ℕ, zero, suc, ◌-◌, ◌≤◌, ◌<◌}
use mathlib.Core.Path.{◌≡◌, refl, ap, ◌∙◌}
use mathlib.Core.List.{List}
use native.Mathlib.Omega.{arith}
use lib.Dec.{eqb}
use lib.ListN.{length, get_or, replicate, length-replicate}
use borrow.Author.Tests.{lt-ltb}
use Rattle.base_laws.proofs.OnFirst.{changes}
use Rattle.base_clock.specs.Run.{after}
use Rattle.base_period.specs.Periods.{hold_of}
use Rattle.state_settings.specs.Settings.{Settings, slots}
use Rattle.state_settings.specs.Valid.{Valid}
use Rattle.state_view.specs.State.{State}
use Rattle.state_view.specs.WellFormed.{WellFormed}
use Rattle.call_setting.specs.Start.{start_of}
use Rattle.call_setting.proofs.Starts.{starts}
use Rattle.state_standing.specs.Flag.{flag}
use Rattle.call_conditions.specs.Conditions.{lost_at, conditions_of}
use Rattle.call_conditions.proofs.Table.{table_at}
use Rattle.call_conditions.proofs.Show.{conditions_show}
use Rattle.call_tick.specs.Tick.{tick_of}
use Rattle.call_tick.proofs.TickedWell.{lowered-at}
use Rattle.call_tick.proofs.Ticks.{ticks}
use Rattle.paper_edges.specs.Table.{Silent}

module _ (buffer : List ℕ) (long : 89 ≤ length buffer) where
  abbrev step : State → List ℕ → State
  step s b = (tick_of s b).state

  -- what ticks leave: a well-formed state of the same settings, and each peer's timer so much lower
  record Left (s e : State) (n : ℕ) : Type 0 where
    well : WellFormed e
    settings : e.settings ≡ s.settings
    timer : (i : ℕ) → get_or e.timers i 0 ≡ get_or s.timers i 0 - n

  one : (s : State) → WellFormed s → Left s (step s buffer) 1
  one s w = record {
    well = ticks.stays s buffer w;
    settings = ticks.settings_stay s buffer;
    timer =
        λ i. ap (λ (x : State). get_or x.timers i 0) (ticks.passes s buffer (ticks.enough s buffer w long)) ∙ lowered-at s.timers i;
  }

  run : (n : ℕ) (s : State) → WellFormed s → Left s (after step s (replicate n buffer)) n
  unfolding after
  run zero s w = record { well = w; settings = refl; timer = λ i. omega arith }
  run (suc n) s w =
      let a = one s w in
      let r = run n (step s buffer) a.well in
      record {
        well = r.well;
        settings = r.settings ∙ a.settings;
        timer = λ i. omega (arith, r.timer i, a.timer i);
      }

  module _ (t : Settings) (slot : ℕ) (v : Valid t) (p : t.period ≡ 1) (used : slot < t.count) (there : slot < slots) where
    -- a used peer's timer starts at the hold time, 7
    starts_at : get_or (start_of t).timers slot 0 ≡ 7
    unfolding hold_of
    starts_at =
        changes.done (λ x. hold_of t.period) t.count (replicate slots 0) 0 slot used (rw (length-replicate {A = ℕ} slots 0) there)
        ∙ ap hold_of p

    heeded : (n : ℕ) → (conditions_of (after step (start_of t) (replicate n buffer))).refusal ≡ 0
    heeded n = rw (conditions_show.answers (after step (start_of t) (replicate n buffer)) (run n (start_of t) (starts.well t v)).well)

    told : (n : ℕ) → get_or (conditions_of (after step (start_of t) (replicate n buffer))).conditions.lost slot 0 ≡ flag (eqb (7 - n) 0)
    told n =
        let e = after step (start_of t) (replicate n buffer) in
        let r = run n (start_of t) (starts.well t v) in
        rw (
          conditions_show.answers e r.well,
          table_at (lost_at e.settings.count e.timers) slots slot there,
          r.settings,
          lt-ltb slot t.count used,
          r.timer slot,
          starts_at,
        )

pub six : Silent 6 0
six t buffer slot v p long used there = (heeded buffer long t slot v p used there 6, told buffer long t slot v p used there 6)

pub seven : Silent 7 1
seven t buffer slot v p long used there = (heeded buffer long t slot v p used there 7, told buffer long t slot v p used there 7)
