-- A DMM, when asked. The paper, "A tick": 51 octets, first stamp the caller's, to the loss peer. Refusals 2, 6 and 3, in this order.
-- Definitions and the statement only.
use Rattle.std.specs.Prelude.{ℕ, ◌≤◌, ◌<◌, ◌≡◌, List, [], ◌∷◌, not, ◌↔◌, ltb, length, Result, Ok, Err}
use Rattle.base_laws.specs.Tests.{choose}
use Rattle.base_laws.specs.Lists.{laid}
use Rattle.base_laws.specs.Ended.{Ended, ended}
use Rattle.state_view.specs.State.{State}
use Rattle.state_view.specs.WellFormed.{WellFormed, well_formed}
use Rattle.base_stamp.specs.declared.Stamp.{Stamp}
use Rattle.base_stamp.specs.Stamps.{good, not_given}
use Rattle.message_requests.specs.Requests.{dmm_octets, dmm_length}
use Rattle.call_send_answer.specs.declared.DmmRefusal.{DmmRefusal}
use Rattle.call_send_answer.specs.declared.DmmRefusal.TheVariants.{NotWellFormed, BadStamp, NoRoom}
use Rattle.message_parts.specs.declared.parts.WrittenTold.{WrittenTold}
use Rattle.message_parts.specs.Buffer.{tell_written}
use Rattle.call_send_answer.specs.Told.{dmm_told}

-- to the loss peer, from us, with the caller's stamp
unfoldable pub dmm_of : State → Stamp → List ℕ
dmm_of s stamp = dmm_octets s.settings.losspeer s.settings.own s.settings.level stamp

-- ── the whole outcome ──

-- refusal 2; refusal 6; refusal 3; the message laid over the buffer's first octets
unfoldable pub send_dmm : State → Stamp → List ℕ → Ended State (Result ℕ DmmRefusal)
send_dmm s stamp buffer =
    choose (
    (not (well_formed s), ended (Err NotWellFormed) s buffer)
    ∷ (not (good stamp), ended (Err BadStamp) s buffer)
    ∷ (ltb (length buffer) dmm_length, ended (Err NoRoom) s buffer)
    ∷ [])
    (ended (Ok dmm_length) s (laid 0 (dmm_of s stamp) buffer))

-- ── in the paper's numbers ──

-- the same from what is given alone
unfoldable pub dmm_numbers : State → Stamp → List ℕ → WrittenTold
dmm_numbers s stamp buffer =
    choose (
    (not (well_formed s), tell_written 2 0)
    ∷ (not (good stamp), tell_written 6 0)
    ∷ (ltb (length buffer) dmm_length, tell_written 3 0)
    ∷ [])
    (tell_written 0 dmm_length)

-- each answer exactly where its line holds and none before it does; what it leaves; 51 octets; an all-zero stamp is as good as any
pub record SendsDmm : Type 0 where
  -- each answer exactly where its line holds and none before it
  pub refuses_2 : (s : State) (stamp : Stamp) (buffer : List ℕ) → ((send_dmm s stamp buffer).answer ≡ Err NotWellFormed) ↔ (WellFormed s → ⊥)
  pub refuses_6 : (s : State) (stamp : Stamp) (buffer : List ℕ) → ((send_dmm s stamp buffer).answer ≡ Err BadStamp) ↔ (WellFormed s × (999999999 < stamp.nanoseconds))
  pub refuses_3 : (s : State) (stamp : Stamp) (buffer : List ℕ)
      → ((send_dmm s stamp buffer).answer ≡ Err NoRoom) ↔ (WellFormed s × (stamp.nanoseconds ≤ 999999999) × (length buffer < 51))
  pub sends : (s : State) (stamp : Stamp) (buffer : List ℕ)
      → ((send_dmm s stamp buffer).answer ≡ Ok dmm_length) ↔ (WellFormed s × (stamp.nanoseconds ≤ 999999999) × (51 ≤ length buffer))
  -- an all-zero stamp is as good as any
  pub sends_zero : (s : State) (buffer : List ℕ) → WellFormed s → 51 ≤ length buffer → (send_dmm s not_given buffer).answer ≡ Ok dmm_length
  -- a refused call leaves the buffer as it was; what is sent is the DMM, and octets behind it stay
  pub refused : (s : State) (stamp : Stamp) (buffer : List ℕ) → ((dmm_told (send_dmm s stamp buffer).answer).refusal ≡ 0 → ⊥) → (send_dmm s stamp buffer).buffer ≡ buffer
  pub writes : (s : State) (stamp : Stamp) (buffer : List ℕ)
      → (dmm_told (send_dmm s stamp buffer).answer).refusal ≡ 0
      → send_dmm s stamp buffer ≡ ended (Ok dmm_length) s (laid 0 (dmm_of s stamp) buffer)
  -- whatever is answered, the state stays as it was
  pub keeps : (s : State) (stamp : Stamp) (buffer : List ℕ) → (send_dmm s stamp buffer).state ≡ s
  -- it is 51 octets long, an address being 6
  pub long : (s : State) (stamp : Stamp) → length s.settings.losspeer ≡ 6 → length s.settings.own ≡ 6 → length (dmm_of s stamp) ≡ 51
  -- an answer has the number that the paper gives it
  pub agree : (s : State) (stamp : Stamp) (buffer : List ℕ) → dmm_told (send_dmm s stamp buffer).answer ≡ dmm_numbers s stamp buffer
