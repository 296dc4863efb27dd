-- A tick. The paper, "A tick": it lowers every timer above 0 by one; every period's last tick sends a CCM; its RDI is set when, after this
-- tick's lowering, any condition stands other than a peer's RDI. Refusals 2 and 3. Definitions and the statement only.
use Rattle.std.specs.Prelude.{ℕ, ◌-◌, ◌≤◌, ◌<◌, ◌≡◌, List, [], ◌∷◌, Bool, cond, not, ◌↔◌, ltb, length, Result, Ok, Err, Option, Some, None}
use Rattle.base_laws.specs.Tests.{choose}
use Rattle.base_laws.specs.Lists.{laid}
use Rattle.base_laws.specs.Ended.{Ended, ended}
use Rattle.base_period.specs.Periods.{ticks_of}
use Rattle.state_view.specs.State.{State}
use Rattle.state_view.specs.WellFormed.{WellFormed, well_formed}
use Rattle.state_view.specs.Changed.{next, put, lowered}
use Rattle.message_parts.specs.declared.parts.WrittenTold.{WrittenTold}
use Rattle.message_parts.specs.Buffer.{tell_written}
use Rattle.message_ccm.specs.Continuity.{ccm_length}
use Rattle.call_send_answer.specs.Told.{tick_told}
use Rattle.call_tick_ccm.specs.Ccm.{ccm_of}
use Rattle.call_send_answer.specs.declared.SendRefusal.{SendRefusal}
use Rattle.call_send_answer.specs.declared.SendRefusal.TheVariants.{NotWellFormed, NoRoom}

-- ── the state after ──

-- ticks of the period are left after this one
abbrev pub ticks_left : State → Bool
ticks_left s = ltb 1 s.next

-- one less; on the period's last tick a whole period again
abbrev pub next_of : State → ℕ
next_of s = cond (ticks_left s) (s.next - 1) (ticks_of s.settings.period)

-- every timer above 0 lowered by one, and the ticks to the next CCM counted
abbrev pub ticked_of : State → State
ticked_of s = put next (next_of s) (lowered s)

-- ── the whole outcome ──

-- refusal 2; nothing to send; refusal 3, and the tick has not passed; a CCM of the state after, laid over the buffer's first octets
unfoldable pub tick_of : State → List ℕ → Ended State (Result (Option ℕ) SendRefusal)
tick_of s buffer =
    choose (
    (not (well_formed s), ended (Err NotWellFormed) s buffer)
    ∷ (ticks_left s, ended (Ok None) (ticked_of s) buffer)
    ∷ (ltb (length buffer) ccm_length, ended (Err NoRoom) s buffer)
    ∷ [])
    (ended (Ok (Some ccm_length)) (ticked_of s) (laid 0 (ccm_of (ticked_of s)) buffer))

-- ── in the paper's numbers ──

-- the same from the state and the buffer alone
unfoldable pub tick_numbers : State → List ℕ → WrittenTold
tick_numbers s buffer =
    choose (
    (not (well_formed s), tell_written 2 0)
    ∷ (ticks_left s, tell_written 0 0)
    ∷ (ltb (length buffer) ccm_length, tell_written 3 0)
    ∷ [])
    (tell_written 0 ccm_length)

-- each answer of a tick exactly where its line holds; what it leaves of state and buffer; what no tick changes; a well-formed state stays
-- so
pub record Ticks : Type 0 where
  -- a well-formed state stays so
  pub stays : (s : State) (buffer : List ℕ) → WellFormed s → WellFormed (tick_of s buffer).state
  -- each answer exactly where its line of the paper holds
  pub refuses_2 : (s : State) (buffer : List ℕ) → ((tick_of s buffer).answer ≡ Err NotWellFormed) ↔ (WellFormed s → ⊥)
  pub refuses_3 : (s : State) (buffer : List ℕ) → ((tick_of s buffer).answer ≡ Err NoRoom) ↔ (WellFormed s × (s.next ≡ 1) × (length buffer < 89))
  pub quiet : (s : State) (buffer : List ℕ) → ((tick_of s buffer).answer ≡ Ok None) ↔ (WellFormed s × (1 < s.next))
  pub sends : (s : State) (buffer : List ℕ)
      → ((tick_of s buffer).answer ≡ Ok (Some ccm_length)) ↔ (WellFormed s × (s.next ≡ 1) × (89 ≤ length buffer))
  -- a refused tick leaves state and buffer as they were, whatever they held
  pub refused : (s : State) (buffer : List ℕ) → ((tick_told (tick_of s buffer).answer).refusal ≡ 0 → ⊥) → ((tick_of s buffer).state ≡ s) × ((tick_of s buffer).buffer ≡ buffer)
  -- a buffer of 89 octets is never refused by a well-formed state
  pub enough : (s : State) (buffer : List ℕ) → WellFormed s → 89 ≤ length buffer → (tick_told (tick_of s buffer).answer).refusal ≡ 0
  -- a tick that is not refused passes
  pub passes : (s : State) (buffer : List ℕ) → (tick_told (tick_of s buffer).answer).refusal ≡ 0 → (tick_of s buffer).state ≡ ticked_of s
  -- what is sent is the CCM of the state after, and octets behind it stay; where none is sent the buffer stays
  pub writes : (s : State) (buffer : List ℕ) → (tick_of s buffer).answer ≡ Ok (Some ccm_length)
      → (tick_of s buffer).buffer ≡ laid 0 (ccm_of (ticked_of s)) buffer
  pub writes_none : (s : State) (buffer : List ℕ) → ((tick_of s buffer).answer ≡ Ok (Some ccm_length) → ⊥) → (tick_of s buffer).buffer ≡ buffer
  -- no tick changes settings, peers' RDI, service counts or session
  pub settings_stay : (s : State) (buffer : List ℕ) → (tick_of s buffer).state.settings ≡ s.settings
  pub rdi_stays : (s : State) (buffer : List ℕ) → (tick_of s buffer).state.rdi ≡ s.rdi
  pub sent_stays : (s : State) (buffer : List ℕ) → (tick_of s buffer).state.sent ≡ s.sent
  pub received_stays : (s : State) (buffer : List ℕ) → (tick_of s buffer).state.received ≡ s.received
  pub session_stays : (s : State) (buffer : List ℕ) → (tick_of s buffer).state.session ≡ s.session
  -- an answer has the number that the paper gives it
  pub agree : (s : State) (buffer : List ℕ) → tick_told (tick_of s buffer).answer ≡ tick_numbers s buffer
