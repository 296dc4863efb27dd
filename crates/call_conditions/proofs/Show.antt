-- The statement of specs/Conditions.antt: what each flag means. Assumes nothing.
use Prim.Native.Nat.{ℕ, ◌<◌}
use mathlib.Core.Path.{◌≡◌, sym, ap, ◌∙◌}
use mathlib.Core.Bool.{◌&&◌}
use native.Mathlib.Omega.{arith}
use lib.Dec.{ltb, eqb}
use lib.ListN.{get_or}
use borrow.Author.Tests.{ltb-true, lt-ltb, eqb-true, eq-eqb}
use Rattle.base_laws.proofs.Tests.{fails, split, join}
use Rattle.state_settings.specs.Settings.{slots}
use Rattle.state_view.specs.State.{State}
use Rattle.state_view.specs.WellFormed.{WellFormed}
use Rattle.state_view.proofs.Rules.{well_formed_is}
use Rattle.state_standing.specs.Standing.{runs}
use Rattle.state_standing.specs.Flag.{flag, Shows}
use Rattle.state_standing.proofs.Flags.{shows}
use Rattle.call_conditions.specs.declared.ConditionsTold.{ConditionsTold}
use Rattle.call_conditions.specs.Conditions.{lost_at, shown_of, no_conditions, answered, conditions_of, ConditionsShow}
use Rattle.call_conditions.proofs.Table.{table-length, table_at}

-- a condition stands while its timer runs
timed : (timer : ℕ) → Shows (flag (runs timer)) (0 < timer)
timed timer = shows (runs timer) (ltb-true 0 timer) (lt-ltb 0 timer)

lost : (s : State) (i : ℕ) → i < slots → Shows (get_or (shown_of s).lost i 0) ((i < s.settings.count) × (get_or s.timers i 0 ≡ 0))
lost s i h =
    let n = s.settings.count in
    let t = get_or s.timers i 0 in
    rw (table_at (lost_at n s.timers) slots i h)
    (shows (ltb i n && eqb t 0)
    (λ e. let b = split (ltb i n) (eqb t 0) e in (ltb-true i n b.0, eqb-true t 0 b.1))
    (λ p. join (ltb i n) (eqb t 0) (lt-ltb i n p.0) (eq-eqb t 0 p.1)))

module _ (s : State) where
  answers : WellFormed s → conditions_of s ≡ answered 0 (shown_of s)
  unfolding conditions_of
  answers w = rw ((well_formed_is.well_formed_is s).1 w)

  zeros : (WellFormed s → ⊥) → conditions_of s ≡ answered 2 no_conditions
  unfolding conditions_of
  zeros n = rw (fails (well_formed_is.well_formed_is s) n)

  refused : (conditions_of s).refusal ≡ 2 → WellFormed s → ⊥
  refused e w =
      let z : ◌≡◌ {A = ℕ} 0 2 = sym (ap (λ (t : ConditionsTold). t.refusal) (answers w)) ∙ e in
      omega arith

pub conditions_show : ConditionsShow
conditions_show = record {
  refuses_2 = λ s. (refused s, λ n. ap (λ (t : ConditionsTold). t.refusal) (zeros s n));
  answers = answers;
  lost = lost;
  slots_all = λ s h. (table-length (lost_at s.settings.count s.timers) slots, h);
  rdi = λ s i w. record { bit = w.rdi i; one = (λ e. e, λ e. e) };
  mismerge = λ s. timed s.mismerge;
  unexpected_level = λ s. timed s.unexpected_level;
  unexpected_mep = λ s. timed s.unexpected_mep;
  unexpected_period = λ s. timed s.unexpected_period;
  ais = λ s. timed s.ais;
  lck = λ s. timed s.lck;
  zeros = zeros;
}
