-- The ticks to the next CCM. The paper, "A tick": every period's last tick sends a CCM. Definitions and the statement only.
use Rattle.std.specs.Prelude.{ℕ, suc, ◌≤◌, ◌≡◌, List, cond, ◌↔◌, length, Ok, Some, None}
use Rattle.state_view.specs.State.{State}
use Rattle.state_view.specs.WellFormed.{WellFormed, well_formed}
use Rattle.message_ccm.specs.Continuity.{ccm_length}
use Rattle.call_tick.specs.Tick.{tick_of}

-- the state's own count, the tick that sends counted; 0 where the state is not well formed
unfoldable pub ticks_to_next : State → ℕ
ticks_to_next s = cond (well_formed s) s.next 0

-- 0 exactly where the state is not well formed; a tick sends a CCM exactly where 1 is left and there is room; a tick that sends none and is
-- not refused leaves one less
pub record CountsDown : Type 0 where
  pub none : (s : State) → (ticks_to_next s ≡ 0) ↔ (WellFormed s → ⊥)
  pub sends : (s : State) (buffer : List ℕ)
      → ((tick_of s buffer).answer ≡ Ok (Some ccm_length)) ↔ ((ticks_to_next s ≡ 1) × (89 ≤ length buffer))
  pub lowers : (s : State) (buffer : List ℕ) → (tick_of s buffer).answer ≡ Ok None → suc (ticks_to_next (tick_of s buffer).state) ≡ ticks_to_next s
