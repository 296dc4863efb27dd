-- The conditions one by one, and a peer's RDI beside them. The paper, "A tick" and rule 5; refusal 2. Definitions and the statement only.
use Rattle.std.specs.Prelude.{ℕ, zero, suc, ◌≤◌, ◌<◌, ◌≡◌, List, [], ◌∷◌, ◌++◌, Bool, cond, ◌&&◌, ◌↔◌, ltb, eqb, length, get_or, replicate}
use Rattle.state_settings.specs.Settings.{slots}
use Rattle.state_view.specs.State.{State}
use Rattle.state_view.specs.WellFormed.{WellFormed, well_formed}
use Rattle.state_standing.specs.Standing.{runs}
use Rattle.state_standing.specs.Flag.{flag, Shows}
use Rattle.call_conditions.specs.declared.ConditionFlags.{ConditionFlags}
use Rattle.call_conditions.specs.declared.ConditionsTold.{ConditionsTold}

-- f of 0, of 1, and so on, n of them
unfoldable pub table : (ℕ → ℕ) → ℕ → List ℕ
table f zero = []
table f (suc n) = table f n ++ (f n ∷ [])

-- slot i is used and its timer has run out
abbrev pub lost_at : ℕ → List ℕ → ℕ → ℕ
lost_at count timers i = flag (ltb i count && eqb (get_or timers i 0) 0)

-- each condition of a state, and the RDI of each peer
abbrev pub shown_of : State → ConditionFlags
shown_of s = record {
  lost = table (lost_at s.settings.count s.timers) slots;
  rdi = s.rdi;
  mismerge = flag (runs s.mismerge);
  unexpectedmep = flag (runs s.unexpected_mep);
  unexpectedperiod = flag (runs s.unexpected_period);
  unexpectedlevel = flag (runs s.unexpected_level);
  ais = flag (runs s.ais);
  lck = flag (runs s.lck);
}

-- every flag 0
abbrev pub no_conditions : ConditionFlags
no_conditions = record {
  lost = replicate slots 0;
  rdi = replicate slots 0;
  mismerge = 0;
  unexpectedmep = 0;
  unexpectedperiod = 0;
  unexpectedlevel = 0;
  ais = 0;
  lck = 0;
}

-- the refusal, or 0, and the conditions
abbrev pub answered : ℕ → ConditionFlags → ConditionsTold
answered refusal conditions = record { refusal = refusal; conditions = conditions }

-- refusal 2, or each condition
unfoldable pub conditions_of : State → ConditionsTold
conditions_of s = cond (well_formed s) (answered 0 (shown_of s)) (answered 2 no_conditions)

-- ── what the flags mean ──

-- refusal 2 exactly where it is due; each flag is 1 exactly where its condition is active; zeros beside a refusal
pub record ConditionsShow : Type 0 where
  -- refusal 2 exactly where the state is not well formed; else the conditions are shown
  pub refuses_2 : (s : State) → ((conditions_of s).refusal ≡ 2) ↔ (WellFormed s → ⊥)
  pub answers : (s : State) → WellFormed s → conditions_of s ≡ answered 0 (shown_of s)
  -- a peer is lost exactly where its slot is used and its timer is 0
  pub lost : (s : State) (i : ℕ) → i < slots → Shows (get_or (shown_of s).lost i 0) ((i < s.settings.count) × (get_or s.timers i 0 ≡ 0))
  -- a peer's RDI is as it was last heard, and 0 or 1
  pub rdi : (s : State) (i : ℕ) → WellFormed s → Shows (get_or (shown_of s).rdi i 0) (get_or s.rdi i 0 ≡ 1)
  -- both lists have an element for each slot
  pub slots_all : (s : State) → length s.rdi ≡ slots → (length (shown_of s).lost ≡ slots) × (length (shown_of s).rdi ≡ slots)
  -- every other condition exactly where its timer is above 0
  pub mismerge : (s : State) → Shows (shown_of s).mismerge (0 < s.mismerge)
  pub unexpected_level : (s : State) → Shows (shown_of s).unexpectedlevel (0 < s.unexpected_level)
  pub unexpected_mep : (s : State) → Shows (shown_of s).unexpectedmep (0 < s.unexpected_mep)
  pub unexpected_period : (s : State) → Shows (shown_of s).unexpectedperiod (0 < s.unexpected_period)
  pub ais : (s : State) → Shows (shown_of s).ais (0 < s.ais)
  pub lck : (s : State) → Shows (shown_of s).lck (0 < s.lck)
  -- beside a refusal every value is 0
  pub zeros : (s : State) → (WellFormed s → ⊥) → conditions_of s ≡ answered 2 no_conditions
