-- A state with one thing changed and all else as it was. Definitions only.
use Rattle.std.specs.Prelude.{ℕ, ◌-◌, cond, List, map, eqb, set}
use Rattle.loss_session.specs.declared.LossSession.{LossSession}
use Rattle.state_view.specs.State.{State}

-- a running word, by its name: the timers of six conditions, the ticks to the next CCM, the two service counts
pub data Word : Type 0 where
  mismerge : Word
  unexpected_level : Word
  unexpected_mep : Word
  unexpected_period : Word
  ais : Word
  lck : Word
  next : Word
  sent : Word
  received : Word

-- where it is among the running words
abbrev pub place_of : Word → ℕ
place_of mismerge = 0
place_of unexpected_level = 1
place_of unexpected_mep = 2
place_of unexpected_period = 3
place_of ais = 4
place_of lck = 5
place_of next = 6
place_of sent = 7
place_of received = 8

-- v where the word is the one at place i, else what was there
abbrev pub anew : Word → ℕ → ℕ → ℕ → ℕ
anew w v i old = cond (eqb (place_of w) i) v old

-- the word w is now v
abbrev pub put : Word → ℕ → State → State
put w v s = record {
  settings = s.settings;
  timers = s.timers;
  rdi = s.rdi;
  mismerge = anew w v 0 s.mismerge;
  unexpected_level = anew w v 1 s.unexpected_level;
  unexpected_mep = anew w v 2 s.unexpected_mep;
  unexpected_period = anew w v 3 s.unexpected_period;
  ais = anew w v 4 s.ais;
  lck = anew w v 5 s.lck;
  next = anew w v 6 s.next;
  sent = anew w v 7 s.sent;
  received = anew w v 8 s.received;
  session = s.session;
}

-- the slots' timers and RDI are now these
abbrev pub with_slots : List ℕ → List ℕ → State → State
with_slots timers rdi s = record {
  settings = s.settings;
  timers = timers;
  rdi = rdi;
  mismerge = s.mismerge;
  unexpected_level = s.unexpected_level;
  unexpected_mep = s.unexpected_mep;
  unexpected_period = s.unexpected_period;
  ais = s.ais;
  lck = s.lck;
  next = s.next;
  sent = s.sent;
  received = s.received;
  session = s.session;
}

-- the peer in a slot was heard: its timer and its RDI are now these
abbrev pub heard : ℕ → ℕ → ℕ → State → State
heard slot timer flag s = with_slots (set s.timers slot timer) (set s.rdi slot flag) s

-- the loss session is now this
abbrev pub with_session : LossSession → State → State
with_session x s = record {
  settings = s.settings;
  timers = s.timers;
  rdi = s.rdi;
  mismerge = s.mismerge;
  unexpected_level = s.unexpected_level;
  unexpected_mep = s.unexpected_mep;
  unexpected_period = s.unexpected_period;
  ais = s.ais;
  lck = s.lck;
  next = s.next;
  sent = s.sent;
  received = s.received;
  session = x;
}

-- every timer above 0 is lowered by one (0 - 1 is 0)
abbrev pub lowered : State → State
lowered s = record {
  settings = s.settings;
  timers = map (λ t. t - 1) s.timers;
  rdi = s.rdi;
  mismerge = s.mismerge - 1;
  unexpected_level = s.unexpected_level - 1;
  unexpected_mep = s.unexpected_mep - 1;
  unexpected_period = s.unexpected_period - 1;
  ais = s.ais - 1;
  lck = s.lck - 1;
  next = s.next;
  sent = s.sent;
  received = s.received;
  session = s.session;
}
