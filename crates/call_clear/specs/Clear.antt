-- A clear. The paper, rule 7: it forgets the kept reading and sets both totals and the intervals to 0; nothing else changes. Refusal 2.
-- Definitions and the statement only.
use Rattle.std.specs.Prelude.{ℕ, ◌≡◌, [], cond, ◌↔◌, Result, Ok, Err}
use Rattle.base_laws.specs.Ended.{Ended, ended}
use Rattle.loss_session.specs.Session.{cleared_session}
use Rattle.state_view.specs.State.{State}
use Rattle.state_view.specs.WellFormed.{WellFormed, well_formed}
use Rattle.state_view.specs.Changed.{with_session}
use Rattle.call_clear.specs.declared.ClearRefusal.{ClearRefusal}
use Rattle.call_clear.specs.declared.ClearRefusal.TheVariants.{NotWellFormed}
use Rattle.call_clear.specs.declared.ClearTold.{ClearTold}

-- ── the whole outcome ──

-- refusal 2, or the cleared session in its place
unfoldable pub clear_of : State → Ended State (Result Unit ClearRefusal)
clear_of s = cond (well_formed s) (ended (Ok tt) (with_session cleared_session s) []) (ended (Err NotWellFormed) s [])

-- ── in the paper's numbers ──

-- the refusal, or 0
abbrev pub tell_clear : ℕ → ClearTold
tell_clear refusal = record { refusal = refusal }

-- the number of each answer
unfoldable pub clear_told : Result Unit ClearRefusal → ClearTold
clear_told (Err NotWellFormed) = tell_clear 2
clear_told (Ok u) = tell_clear 0

-- the same from the state alone
abbrev pub clear_numbers : State → ClearTold
clear_numbers s = cond (well_formed s) (tell_clear 0) (tell_clear 2)

-- refusal 2 exactly where it is due, and then nothing changes; else reading, intervals and totals are forgotten; nothing else ever
-- changes; a well-formed state stays so
pub record Clears : Type 0 where
  -- a well-formed state stays so
  pub stays : (s : State) → WellFormed s → WellFormed (clear_of s).state
  -- refusal 2 exactly where the state is not well formed, and it stays as it was, whatever it held
  pub refuses_2 : (s : State) → ((clear_of s).answer ≡ Err NotWellFormed) ↔ (WellFormed s → ⊥)
  pub refused : (s : State) → (WellFormed s → ⊥) → (clear_of s).state ≡ s
  -- reading, intervals and totals are forgotten
  pub forgets : (s : State) → WellFormed s → (clear_of s).state.session ≡ cleared_session
  -- whatever the answer, nothing but the session changes
  pub others : (s : State) → (clear_of s).state ≡ with_session (clear_of s).state.session s
  -- an answer has the number that the paper gives it
  pub agree : (s : State) → clear_told (clear_of s).answer ≡ clear_numbers s
