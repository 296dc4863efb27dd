-- An LMM, when asked. The paper, "A tick": 31 octets, TxFCf our sent count, to the loss peer. Refusals 2 and 3. Definitions and the
-- statement only.
use Rattle.std.specs.Prelude.{ℕ, ◌≤◌, ◌<◌, ◌≡◌, List, [], ◌∷◌, not, ◌↔◌, ltb, length, Result, Ok, Err}
use Rattle.base_laws.specs.Tests.{choose}
use Rattle.base_laws.specs.Lists.{laid}
use Rattle.base_laws.specs.Ended.{Ended, ended}
use Rattle.state_view.specs.State.{State}
use Rattle.state_view.specs.WellFormed.{WellFormed, well_formed}
use Rattle.message_requests.specs.Requests.{lmm_octets, lmm_length}
use Rattle.call_send_answer.specs.declared.SendRefusal.{SendRefusal}
use Rattle.call_send_answer.specs.declared.SendRefusal.TheVariants.{NotWellFormed, NoRoom}
use Rattle.message_parts.specs.declared.parts.WrittenTold.{WrittenTold}
use Rattle.message_parts.specs.Buffer.{tell_written}
use Rattle.call_send_answer.specs.Told.{lmm_told}

-- to the loss peer, from us, with our sent count
unfoldable pub lmm_of : State → List ℕ
lmm_of s = lmm_octets s.settings.losspeer s.settings.own s.settings.level s.sent

-- ── the whole outcome ──

-- refusal 2; refusal 3; the message laid over the buffer's first octets
unfoldable pub send_lmm : State → List ℕ → Ended State (Result ℕ SendRefusal)
send_lmm s buffer =
    choose (
    (not (well_formed s), ended (Err NotWellFormed) s buffer)
    ∷ (ltb (length buffer) lmm_length, ended (Err NoRoom) s buffer)
    ∷ [])
    (ended (Ok lmm_length) s (laid 0 (lmm_of s) buffer))

-- ── in the paper's numbers ──

-- the same from what is given alone
unfoldable pub lmm_numbers : State → List ℕ → WrittenTold
lmm_numbers s buffer =
    choose (
    (not (well_formed s), tell_written 2 0)
    ∷ (ltb (length buffer) lmm_length, tell_written 3 0)
    ∷ [])
    (tell_written 0 lmm_length)

-- each answer exactly where its line holds and none before it does; what it leaves; 31 octets
pub record SendsLmm : Type 0 where
  -- each answer exactly where its line holds and none before it
  pub refuses_2 : (s : State) (buffer : List ℕ) → ((send_lmm s buffer).answer ≡ Err NotWellFormed) ↔ (WellFormed s → ⊥)
  pub refuses_3 : (s : State) (buffer : List ℕ) → ((send_lmm s buffer).answer ≡ Err NoRoom) ↔ (WellFormed s × (length buffer < 31))
  pub sends : (s : State) (buffer : List ℕ) → ((send_lmm s buffer).answer ≡ Ok lmm_length) ↔ (WellFormed s × (31 ≤ length buffer))
  -- a refused call leaves the buffer as it was; what is sent is the LMM, and octets behind it stay
  pub refused : (s : State) (buffer : List ℕ) → ((lmm_told (send_lmm s buffer).answer).refusal ≡ 0 → ⊥) → (send_lmm s buffer).buffer ≡ buffer
  pub writes : (s : State) (buffer : List ℕ) → (lmm_told (send_lmm s buffer).answer).refusal ≡ 0
      → send_lmm s buffer ≡ ended (Ok lmm_length) s (laid 0 (lmm_of s) buffer)
  -- whatever is answered, the state stays as it was
  pub keeps : (s : State) (buffer : List ℕ) → (send_lmm s buffer).state ≡ s
  -- it is 31 octets long, an address being 6
  pub long : (s : State) → length s.settings.losspeer ≡ 6 → length s.settings.own ≡ 6 → length (lmm_of s) ≡ 31
  -- an answer has the number that the paper gives it
  pub agree : (s : State) (buffer : List ℕ) → lmm_told (send_lmm s buffer).answer ≡ lmm_numbers s buffer
