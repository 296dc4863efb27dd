-- A state in octets, as recorded runs put and show it: settings 81, as in a stored record; sent 4, received 4; eight peer timers of 4,
-- eight peer RDI of 1; mismerge, unexpected MEP, unexpected period, unexpected level, AIS, LCK and ticks to the next CCM, 4 each; the
-- session, 37. Definitions and the statement only.
use Rattle.std.specs.Prelude.{ℕ, ◌≤◌, ◌≡◌, List, [], ◌∷◌, ◌++◌, length, drop}
use Rattle.base_laws.specs.Lists.{part}
use Rattle.base_octets.specs.Octets.{Octets}
use Rattle.loss_session.specs.declared.LossSession.{LossSession}
use Rattle.state_settings.specs.Settings.{slots, Shaped}
use Rattle.state_view.specs.State.{State, run_of, totals_of, shown}
use Rattle.state_view.specs.Changed.{with_session}
use Rattle.state_view.specs.declared.StateArrays.{StateArrays}
use Rattle.stored_settings_body.specs.Body.{settings_body, settings_in}
use Rattle.stored_settings_body.specs.Lying.{set_of, names_of}
use Rattle.replay_session.specs.Session.{field_at, session_octets, session_at}
use Rattle.replay_state.specs.Words.{words_octets, words_in}

-- what is between settings and session: the counts, the slots' timers and RDI, the other words
unfoldable pub running_octets : List ℕ → List ℕ → List ℕ → List ℕ → List ℕ
running_octets counts timers rdi others = words_octets 4 counts ++ words_octets 4 timers ++ words_octets 1 rdi ++ words_octets 4 others

-- the octets of a state
unfoldable pub state_octets : State → List ℕ
state_octets s =
    settings_body s.settings
    ++ running_octets (s.sent ∷ s.received ∷ []) s.timers s.rdi
    (s.mismerge ∷ s.unexpected_mep ∷ s.unexpected_period ∷ s.unexpected_level ∷ s.ais ∷ s.lck ∷ s.next ∷ [])
    ++ session_octets s.session

-- the state in octets, taken as it is
abbrev pub state_at : List ℕ → State
state_at octets = record {
  settings = settings_in slots (part 0 81 octets);
  sent = field_at 81 4 octets;
  received = field_at 85 4 octets;
  timers = words_in 4 slots (drop 89 octets);
  rdi = words_in 1 slots (drop 121 octets);
  mismerge = field_at 129 4 octets;
  unexpected_mep = field_at 133 4 octets;
  unexpected_period = field_at 137 4 octets;
  unexpected_level = field_at 141 4 octets;
  ais = field_at 145 4 octets;
  lck = field_at 149 4 octets;
  next = field_at 153 4 octets;
  session = session_at (part 157 37 octets);
}

-- ── how it is laid out in memory ──

-- the running words of the state in octets, with this session
abbrev pub run_at : List ℕ → LossSession → List ℕ
run_at octets session = run_of (with_session session (state_at octets))

-- all seven arrays
abbrev pub arrays_of : State → StateArrays
arrays_of s = record {
  set = set_of s.settings;
  names = names_of s.settings;
  ids = s.settings.ids;
  timers = s.timers;
  rdi = s.rdi;
  run = run_of s;
  totals = totals_of s;
}

-- the arrays that are read show the state in the octets; any 194 octets that are put are shown as the same octets
pub record StatesInOctets : Type 0 where
  pub long : (s : State) → Shaped slots s.settings → length s.timers ≡ slots → length s.rdi ≡ slots → length (state_octets s) ≡ 194
  -- the arrays that are read show the state in the octets
  pub lies : (octets : List ℕ) → 194 ≤ length octets → shown (arrays_of (state_at octets)) ≡ state_at octets
  -- what is put is shown as the same octets, whatever they are
  pub again : (octets : List ℕ) → length octets ≡ 194 → Octets octets → state_octets (shown (arrays_of (state_at octets))) ≡ octets
