-- A frame of our level is looked at once. The paper, rule 4: D3, D4, D5, D6, D7 in this order, then the handler. Here they are tests on the
-- one row of the opcode and on the PDU; `Decide` has them by what the reader says of the frame. Definitions and the statement only.
use Rattle.std.specs.Prelude.{ℕ, ◌+◌, ◌≤◌, ◌≡◌, true, not, List, [], ◌∷◌, ltb, length, Result, Ok, Err}
use Rattle.base_laws.specs.Tests.{choose}
use Rattle.base_stamp.specs.declared.Stamp.{Stamp}
use Rattle.state_settings.specs.Settings.{Settings}
use Rattle.frame_head.specs.Head.{behind_head, length_good, oam_frame, pdu_of, opcode_of, flags_of, offset_of, start_of}
use Rattle.frame_opcodes.specs.Opcodes.{rule_of}
use Rattle.frame_tlvs.specs.Tlvs.{tlvs_whole}
use Rattle.frame_message.specs.Message.{period_code, code_good}
use Rattle.receive_answer.specs.declared.Drop.{Drop}
use Rattle.receive_answer.specs.declared.Drop.TheVariants as drop
use Rattle.receive_handle.specs.declared.Decision.{Decision}
use Rattle.receive_handle.specs.declared.Decision.TheVariants as decision
use Rattle.receive_handle.specs.Handle.{handle_of}
use Rattle.receive_decide.specs.Decide.{is_ours, own_of}

-- by the box's address and the loss peer's; a frame that is too long is refused before
unfoldable pub look_at : List ℕ → List ℕ → List ℕ → Result Unit Drop
look_at own losspeer f =
    choose (
    (not (rule_of (opcode_of (pdu_of f))).handled, Err drop.Opcode)
    ∷ (not (length_good f), Err drop.Short)
    ∷ (ltb (offset_of (pdu_of f)) (rule_of (opcode_of (pdu_of f))).least, Err drop.Offset)
    ∷ (not (tlvs_whole (start_of (pdu_of f)) (pdu_of f)), Err drop.CutOff)
    ∷ (not (is_ours own losspeer f), Err drop.Destination)
    ∷ (not (code_good (rule_of (opcode_of (pdu_of f))) (period_code (flags_of (pdu_of f)))), Err drop.Value)
    ∷ [])
    (Ok tt)

-- dropped, or handled by the opcode's row
unfoldable pub by_look : Settings → List ℕ → Stamp → Result Unit Drop → Decision
by_look t f receive (Err d) = decision.Drops d
by_look t f receive (Ok u) = handle_of t (pdu_of f) receive (rule_of (opcode_of (pdu_of f))).handler

-- the one look gives what the separate tests give, of any OAM frame that has the four octets before a fixed part
pub record OneLook : Type 0 where
  pub agrees : (t : Settings) (f : List ℕ) (receive : Stamp) → oam_frame f ≡ true → behind_head 4 ≤ length f
      → own_of t f receive ≡ by_look t f receive (look_at t.own t.losspeer f)
  -- what it lets through has its whole fixed part
  pub whole : (own losspeer f : List ℕ) → look_at own losspeer f ≡ Ok tt → 4 + (rule_of (opcode_of (pdu_of f))).least ≤ length (pdu_of f)
