-- A call's arguments as they are passed in: the seven arrays of a state, which come first in each call of C, or the settings and the four
-- other arrays, which come first inside, and what the call brings after them. Each place is named here once. Definitions only.
use Rattle.std.specs.Prelude.{ℕ, Bool, true, false, List, ℤ}
use Rattle.std.specs.Borrow.{Bor, MutBor}
use Rattle.state_settings.specs.declared.LentSettings.{LentSettings}
use Rattle.state_view.specs.declared.StateArrays.{StateArrays}

-- an array that is lent, to be read or to be written, and what is in it
abbrev pub Array : Bool → Type 0 → Type 0
Array false A = Bor A
Array true A = MutBor A

abbrev pub in_array : (written : Bool) (A : Type 0) → Array written A → A
in_array false A r = r.now
in_array true A r = r.now

-- which arrays a call may write: no call writes settings
pub record Writes : Type 0 where
  pub timers : Bool
  pub rdi : Bool
  pub run : Bool
  pub totals : Bool

-- a call that only reads; one that writes running words and totals; timers and running words; timers, RDI and running words; all four
abbrev pub reads : Writes
reads = record { timers = false; rdi = false; run = false; totals = false }

abbrev pub writes_session : Writes
writes_session = record { timers = false; rdi = false; run = true; totals = true }

abbrev pub writes_tick : Writes
writes_tick = record { timers = true; rdi = false; run = true; totals = false }

abbrev pub writes_signal : Writes
writes_signal = record { timers = true; rdi = true; run = true; totals = false }

abbrev pub writes_all : Writes
writes_all = record { timers = true; rdi = true; run = true; totals = true }

-- seven arrays, and X after them
abbrev pub Arrays : Writes → Type 0 → Type 0
Arrays w X =
    Bor (List ℕ)
    × (Bor (List ℕ)
    × (Bor (List ℕ)
    × (Array w.timers (List ℕ) × (Array w.rdi (List ℕ) × (Array w.run (List ℕ) × (Array w.totals (List ℤ) × X))))))

-- what is in them
abbrev pub held : (w : Writes) {X : Type 0} → Arrays w X → StateArrays
held w a =
    let (set, (names, (ids, (timers, (rdi, (run, (totals, _))))))) = a in
    record {
      set = set.now;
      names = names.now;
      ids = ids.now;
      timers = in_array w.timers (List ℕ) timers;
      rdi = in_array w.rdi (List ℕ) rdi;
      run = in_array w.run (List ℕ) run;
      totals = in_array w.totals (List ℤ) totals;
    }

-- what comes after them
abbrev pub behind : {A B C D E F G X : Type 0} → A × (B × (C × (D × (E × (F × (G × X)))))) → X
behind a = let (_, (_, (_, (_, (_, (_, (_, x))))))) = a in x

-- the last of five: the buffer of a call that brings a frame
abbrev pub fifth : {A B C D E X : Type 0} → A × (B × (C × (D × (E × X)))) → E
fifth b = let (_, (_, (_, (_, (e, _))))) = b in e

-- a box's arrays with new content in those that a call may write: no call writes settings
abbrev pub anew : StateArrays → List ℕ → List ℕ → List ℕ → List ℤ → StateArrays
anew h timers rdi run totals = record {
  set = h.set;
  names = h.names;
  ids = h.ids;
  timers = timers;
  rdi = rdi;
  run = run;
  totals = totals;
}

-- What a call leaves in the arrays: a were its arguments, s is what is left of them. This one may write all four.
abbrev pub left : {X Y : Type 0} → Arrays writes_all X → Arrays writes_all Y → StateArrays
left a s =
    anew (held writes_all a) (held writes_all s).timers (held writes_all s).rdi (held writes_all s).run (held writes_all s).totals

-- one that writes running words and totals
abbrev pub left_session : {X Y : Type 0} → Arrays writes_session X → Arrays writes_session Y → StateArrays
left_session a s =
    let before = held writes_session a in
    anew before before.timers before.rdi (held writes_session s).run (held writes_session s).totals

-- the four arrays of a state behind its settings, and X after them
abbrev pub Four : Writes → Type 0 → Type 0
Four w X = Array w.timers (List ℕ) × (Array w.rdi (List ℕ) × (Array w.run (List ℕ) × (Array w.totals (List ℤ) × X)))

-- what is in settings that are lent together, and in the four
abbrev pub held_lent : (w : Writes) {X : Type 0} → LentSettings × Four w X → StateArrays
held_lent w a =
    let (lent, (timers, (rdi, (run, (totals, _))))) = a in
    record {
      set = lent.set.now;
      names = lent.names.now;
      ids = lent.ids.now;
      timers = in_array w.timers (List ℕ) timers;
      rdi = in_array w.rdi (List ℕ) rdi;
      run = in_array w.run (List ℕ) run;
      totals = in_array w.totals (List ℤ) totals;
    }

-- what a call that writes running words and totals leaves of them
abbrev pub left_session_lent : {L X Y : Type 0} → LentSettings × Four writes_session X → L × Four writes_session Y → StateArrays
left_session_lent a s =
    let before = held_lent writes_session a in
    let (_, (_, (_, (run, (totals, _))))) = s in
    anew before before.timers before.rdi run.now totals.now

-- what a call that writes timers and running words leaves of them
abbrev pub left_tick_lent : {L X Y : Type 0} → LentSettings × Four writes_tick X → L × Four writes_tick Y → StateArrays
left_tick_lent a s =
    let before = held_lent writes_tick a in
    let (_, (timers, (_, (run, _)))) = s in
    anew before timers.now before.rdi run.now before.totals

-- what a call that writes timers, RDI and running words leaves of them
abbrev pub left_signal_lent : {L X Y : Type 0} → LentSettings × Four writes_signal X → L × Four writes_signal Y → StateArrays
left_signal_lent a s =
    let before = held_lent writes_signal a in
    let (_, (timers, (rdi, (run, _)))) = s in
    anew before timers.now rdi.now run.now before.totals

-- what a call that writes all four leaves of them
abbrev pub left_frame_lent : {L X Y : Type 0} → LentSettings × Four writes_all X → L × Four writes_all Y → StateArrays
left_frame_lent a s =
    let (_, (timers, (rdi, (run, (totals, _))))) = s in
    anew (held_lent writes_all a) timers.now rdi.now run.now totals.now

-- one that writes timers and running words
abbrev pub left_tick : {X Y : Type 0} → Arrays writes_tick X → Arrays writes_tick Y → StateArrays
left_tick a s =
    let before = held writes_tick a in
    anew before (held writes_tick s).timers before.rdi (held writes_tick s).run before.totals

-- one that writes timers, RDI and running words
abbrev pub left_signal : {X Y : Type 0} → Arrays writes_signal X → Arrays writes_signal Y → StateArrays
left_signal a s =
    let before = held writes_signal a in
    anew before (held writes_signal s).timers (held writes_signal s).rdi (held writes_signal s).run before.totals
