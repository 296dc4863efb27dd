-- `call_setting::begin` meets its contract: the used peers' timers at the hold time, a period to run, zeros elsewhere.
use Prim.Native.Nat.{ℕ}
use mathlib.Core.Path.{◌≡◌, ap, ◌∙◌}
use mathlib.Core.List.{List}
use lib.IntN.{pos}
use lib.ListN.{get_or, replicate, set}
use Rattle.base_laws.specs.Lists.{on_first}
use Rattle.base_period.specs.Periods.{ticks_of}
use Rattle.state_settings.specs.Settings.{slots, settings_of}
use Rattle.state_view.specs.State.{run_words, loss_totals}
use Rattle.call_setting.specs.declared.NewBox.{NewBox}
use Rattle.call_setting.specs.Told.{setting_told}
use Rattle.call_setting.specs.Start.{start_of, started_with, box_of}
use Rattle.call_setting.proofs.begin.Goals as goal

-- the parts that are worked out are the definition's

made : (words names ids timers : List ℕ) (next : ℕ) → timers ≡ (start_of (settings_of words names ids)).timers
    → next ≡ ticks_of (settings_of words names ids).period
    → ◌≡◌ {A = NewBox}
    (record {
      refusal = 0;
      state = record {
        set = words;
        names = names;
        ids = ids;
        timers = timers;
        rdi = replicate slots 0;
        run = set (replicate run_words 0) 6
            next;
        totals = replicate loss_totals (pos 0);
      };
    })
    (box_of (started_with words names ids))
unfolding started_with setting_told
made words names ids timers next e f = rw (e, f)

pub returns : goal.returns
returns c = let a = c.args in
    let hold = c.hold_of.ensures in
    let timers = c.start_timers.ensures in
    made a.set.now a.names.now a.ids.now _ _ (timers
    ∙ ap (λ (h : ℕ). on_first (λ x. h) (get_or a.set.now 3 0) (replicate {A = ℕ} slots 0)) hold)
    c.ticks_of.ensures
