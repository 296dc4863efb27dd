-- What a box knows: its settings, its timers, its counts, its loss session; and where each word of it is. The paper, "Numbers" and rules 5
-- and 7. Definitions only.
use Rattle.std.specs.Prelude.{ℕ, List, [], ◌∷◌, ℤ, pos, get_or}
use Rattle.std.specs.Borrow.{Bor}
use denote.Triple.Both.{Both}
use Rattle.state_settings.specs.Settings.{Settings, settings_of, Lent}
use Rattle.state_settings.specs.declared.LentSettings.{LentSettings}
use Rattle.loss_session.specs.declared.LossSession.{LossSession}
use Rattle.loss_session.specs.Session.{readings}
use Rattle.state_view.specs.declared.StateArrays.{StateArrays}
use Rattle.state_view.specs.declared.LentState.{LentState}

-- how many running words a box has, and how many totals of loss
abbrev pub run_words : ℕ
run_words = 15

abbrev pub loss_totals : ℕ
loss_totals = 2

pub record State : Type 0 where
  pub settings : Settings
  -- a timer and an RDI for each slot
  pub timers : List ℕ
  pub rdi : List ℕ
  -- the timers of the other conditions
  pub mismerge : ℕ
  pub unexpected_level : ℕ
  pub unexpected_mep : ℕ
  pub unexpected_period : ℕ
  pub ais : ℕ
  pub lck : ℕ
  -- ticks to the next CCM
  pub next : ℕ
  -- service frames sent and received
  pub sent : ℕ
  pub received : ℕ
  pub session : LossSession

-- the session's words, from place 9 of the running words on, and its two totals
abbrev pub session_in : List ℕ → List ℤ → LossSession
session_in run totals = record {
  kept = get_or run 9 0;
  last = readings (get_or run 10 0) (get_or run 11 0) (get_or run 12 0) (get_or run 13 0);
  intervals = get_or run 14 0;
  near = get_or totals 0 (pos 0);
  far = get_or totals 1 (pos 0);
}

-- the state in seven arrays: settings' words, names, peers' IDs; peers' timers, peers' RDI, running words, totals
abbrev pub view_of : List ℕ → List ℕ → List ℕ → List ℕ → List ℕ → List ℕ → List ℤ → State
view_of set names ids timers rdi run totals = record {
  settings = settings_of set names ids;
  timers = timers;
  rdi = rdi;
  mismerge = get_or run 0 0;
  unexpected_level = get_or run 1 0;
  unexpected_mep = get_or run 2 0;
  unexpected_period = get_or run 3 0;
  ais = get_or run 4 0;
  lck = get_or run 5 0;
  next = get_or run 6 0;
  sent = get_or run 7 0;
  received = get_or run 8 0;
  session = session_in run totals;
}

-- and back: the running words of a state, and its totals
abbrev pub run_of : State → List ℕ
run_of s =
    s.mismerge
    ∷ s.unexpected_level
    ∷ s.unexpected_mep
    ∷ s.unexpected_period
    ∷ s.ais
    ∷ s.lck
    ∷ s.next
    ∷ s.sent
    ∷ s.received
    ∷ s.session.kept
    ∷ s.session.last.txf
    ∷ s.session.last.rxf
    ∷ s.session.last.txb
    ∷ s.session.last.ours
    ∷ s.session.intervals
    ∷ []

abbrev pub totals_of : State → List ℤ
totals_of s = s.session.near ∷ s.session.far ∷ []

-- the state in arrays held together
abbrev pub shown : StateArrays → State
shown a = view_of a.set a.names a.ids a.timers a.rdi a.run a.totals

-- and of arrays that are lent to a call: no call writes the settings, and of the others the content at a moment is named
abbrev pub lying : Bor (List ℕ) → Bor (List ℕ) → Bor (List ℕ) → List ℕ → List ℕ → List ℕ → List ℤ → State
lying set names ids timers rdi run totals = view_of set.now names.now ids.now timers rdi run totals

-- of a state that is lent to be read; and as a contract speaks of it
abbrev pub state_lent : LentState → State
state_lent s = lying s.settings.set s.settings.names s.settings.ids s.timers.now s.rdi.now s.run.now s.totals.now

abbrev pub state_in : Both LentState LentState → State
state_in lent = state_lent lent.entry

-- of settings that are lent to be read, and the other arrays by their content when the call begins; when it ends
abbrev pub at_start : Both LentSettings LentSettings → List ℕ → List ℕ → List ℕ → List ℤ → State
at_start lent timers rdi run totals = let s = lent.entry in lying s.set s.names s.ids timers rdi run totals

abbrev pub at_end : Both LentSettings LentSettings → List ℕ → List ℕ → List ℕ → List ℤ → State
at_end lent timers rdi run totals = let s = lent.entry in lying s.set s.names s.ids timers rdi run totals

-- the state when a call begins: the other arrays as they are then
abbrev pub before : Lent → Lent → Lent → List ℕ → List ℕ → List ℕ → List ℤ → State
before set names ids timers rdi run totals = lying set.entry names.entry ids.entry timers rdi run totals

-- the state when a call ends: the other arrays as they are then, one that a call does not write as it was
abbrev pub after : Lent → Lent → Lent → List ℕ → List ℕ → List ℕ → List ℤ → State
after set names ids timers rdi run totals = lying set.entry names.entry ids.entry timers rdi run totals

-- the same of a call that writes the running words and totals alone
abbrev pub after_session : Lent → Lent → Lent → List ℕ → List ℕ → List ℕ → List ℤ → State
after_session set names ids timers rdi run totals = lying set.entry names.entry ids.entry timers rdi run totals

-- of one that writes timers and running words
abbrev pub after_tick : Lent → Lent → Lent → List ℕ → List ℕ → List ℕ → List ℤ → State
after_tick set names ids timers rdi run totals = lying set.entry names.entry ids.entry timers rdi run totals

-- of one that writes timers, RDI and running words
abbrev pub after_signal : Lent → Lent → Lent → List ℕ → List ℕ → List ℕ → List ℤ → State
after_signal set names ids timers rdi run totals = lying set.entry names.entry ids.entry timers rdi run totals
