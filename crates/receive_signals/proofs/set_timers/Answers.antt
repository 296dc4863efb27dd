-- Each arm is its line of `signalled`, a word stored (`state_places`) or a slot. Assumes nothing.
use Prim.Native.Nat.{ℕ}
use mathlib.Core.Path.{◌≡◌, ap, ◌∙◌}
use mathlib.Core.List.{List}
use lib.ListN.{length, set, length-set}
use lib.IntN.{ℤ}
use Rattle.state_view.specs.State.{State, view_of, run_words, loss_totals}
use Rattle.state_view.specs.Changed.{Word, place_of, put, heard}
use Rattle.state_view.specs.Changed as word
use Rattle.state_places.specs.Stored.{Whole}
use Rattle.state_places.proofs.Stores as Stores
use Rattle.state_view.specs.WellFormed.{own_most}
use Rattle.receive_signals.specs.Signals.{signalled}
use borrow.Author.Rules.{rules}
use Rattle.receive_signals.proofs.set_timers.Goals as goal

-- ── what is stored, and what that makes of the state ──

module _ (words names ids timers rdi run : List ℕ) (totals : List ℤ) (long : length run ≡ run_words) (both : length totals ≡ loss_totals) where
  abbrev state : State
  state = view_of words names ids timers rdi run totals

  -- the arrays with other slots and running words, and their lengths as they were
  abbrev Left : List ℕ → List ℕ → List ℕ → State → Type 0
  Left ts rs ws s = (view_of words names ids ts rs ws totals ≡ s) × Whole ws totals

  -- one word is set to a hold time
  word_set : (w : Word) {h hold : ℕ} → h ≡ hold → Left timers rdi (set run (place_of w) h) (put w hold state)
  word_set w {h} e = (
    Stores.word words names ids timers rdi totals h w run long
        ∙ ap (λ (x : ℕ). put w x state) e,
    record { words = simp length-set long; both = both },
  )

  module _ {ts rs : List ℕ} (slot hold flag : ℕ) (t : ts ≡ set timers slot hold) (g : rs ≡ set rdi slot flag)
      (h : hold ≡ own_most state) where
    -- a peer's two words are the peer heard
    peer-set : Left ts rs run (heard slot (own_most state) flag state)
    peer-set = (rw (t, g, h), record { words = long; both = both })

    -- and so with the unexpected period beside it
    other-set : Left ts rs (set run (place_of word.unexpected_period) hold)
        (put word.unexpected_period (own_most state) (heard slot (own_most state) flag state))
    other-set = (
      Stores.word words names ids ts rs totals hold word.unexpected_period run long
          ∙ ap (put word.unexpected_period hold) peer-set.0
          ∙ ap (λ (x : ℕ). put word.unexpected_period x (heard slot (own_most state) flag state)) h,
      record { words = simp length-set long; both = both },
    )

-- ── arm by arm ──

pub returns-in-Mismerge : goal.returns-in-Mismerge
unfolding signalled
returns-in-Mismerge c =
    let a = c.args in
    let long : length a.run.now ≡ run_words = search rules in
    let both : length a.totals.now ≡ loss_totals = search rules in
    let w = word_set a.settings.set.now a.settings.names.now a.settings.ids.now a.timers.now a.rdi.now a.run.now a.totals.now long both
    word.mismerge c.hold_of-hold.ensures in
    rw c.in-Mismerge.is record { totals_value = w.0; whole = w.1 }

pub returns-in-UnexpectedMep : goal.returns-in-UnexpectedMep
unfolding signalled
returns-in-UnexpectedMep c =
    let a = c.args in
    let long : length a.run.now ≡ run_words = search rules in
    let both : length a.totals.now ≡ loss_totals = search rules in
    let w = word_set a.settings.set.now a.settings.names.now a.settings.ids.now a.timers.now a.rdi.now a.run.now a.totals.now long both
    word.unexpected_mep c.hold_of-hold.ensures in
    rw c.in-UnexpectedMep.is record { totals_value = w.0; whole = w.1 }

pub returns-in-Heard : goal.returns-in-Heard
unfolding signalled
returns-in-Heard c =
    let a = c.args in
    let long : length a.run.now ≡ run_words = search rules in
    let both : length a.totals.now ≡ loss_totals = search rules in
    let w = peer-set a.settings.set.now a.settings.names.now a.settings.ids.now a.timers.now a.rdi.now a.run.now a.totals.now long both
    _ _ _ c.put_slot.ensures c.put_slot-in-Heard.ensures c.hold_of-hold.ensures in
    rw c.in-Heard.is record { totals_value = w.0; whole = w.1 }

pub returns-in-UnexpectedPeriod : goal.returns-in-UnexpectedPeriod
unfolding signalled
returns-in-UnexpectedPeriod c =
    let a = c.args in
    let long : length a.run.now ≡ run_words = search rules in
    let both : length a.totals.now ≡ loss_totals = search rules in
    let w = other-set a.settings.set.now a.settings.names.now a.settings.ids.now a.timers.now a.rdi.now a.run.now a.totals.now long both
    _ _ _ c.put_slot-in-UnexpectedPeriod.ensures c.put_slot-in-UnexpectedPeriod-2.ensures
    c.hold_of-hold.ensures in
    rw c.in-UnexpectedPeriod.is record { totals_value = w.0; whole = w.1 }

pub returns-in-Alarm : goal.returns-in-Alarm
unfolding signalled
returns-in-Alarm c =
    let a = c.args in
    let long : length a.run.now ≡ run_words = search rules in
    let both : length a.totals.now ≡ loss_totals = search rules in
    let w = word_set a.settings.set.now a.settings.names.now a.settings.ids.now a.timers.now a.rdi.now a.run.now a.totals.now long both
    word.ais c.hold_of.ensures in
    rw c.in-Alarm.is record { totals_value = w.0; whole = w.1 }

pub returns-in-Lock : goal.returns-in-Lock
unfolding signalled
returns-in-Lock c =
    let a = c.args in
    let long : length a.run.now ≡ run_words = search rules in
    let both : length a.totals.now ≡ loss_totals = search rules in
    let w = word_set a.settings.set.now a.settings.names.now a.settings.ids.now a.timers.now a.rdi.now a.run.now a.totals.now long both
    word.lck c.hold_of-in-Lock.ensures in
    rw c.in-Lock.is record { totals_value = w.0; whole = w.1 }
