-- The cases of a frame of our level, by what the reader says of it. Assumes nothing.
use Prim.Native.Nat.{ℕ}
use mathlib.Core.Path.{◌≡◌}
use mathlib.Core.Bool.{true, false, cond}
use mathlib.Core.List.{List}
use Rattle.state_settings.specs.Settings.{Settings}
use Rattle.std.specs.Prelude.{Result, Ok, Err}
use Rattle.frame_message_answer.specs.declared.NoMessage.{NoMessage}
use Rattle.frame_message_answer.specs.declared.NoMessage.TheVariants as message
use Rattle.base_stamp.specs.declared.Stamp.{Stamp}
use Rattle.receive_answer.specs.declared.Drop.TheVariants as drop
use Rattle.frame_reader_answer.specs.declared.Bad.{Bad}
use Rattle.frame_head.specs.Head.{pdu_of, opcode_of}
use Rattle.frame_opcodes.specs.Opcodes.{rule_of}
use Rattle.frame_message.specs.Message.{message_of}
use Rattle.receive_handle.specs.declared.Decision.TheVariants.{Drops}
use Rattle.receive_handle.specs.Handle.{handle_of}
use Rattle.receive_decide.specs.Decide.{is_ours, drop_for, answered_of, own_of}

module _ (t : Settings) (f : List ℕ) (receive : Stamp) where
  pub not-handled : (rule_of (opcode_of (pdu_of f))).handled ≡ false → own_of t f receive ≡ Drops drop.Opcode
  unfolding own_of
  not-handled h = rw h

  reached : (m : Result ℕ NoMessage) → (rule_of (opcode_of (pdu_of f))).handled ≡ true → message_of f ≡ m
      → own_of t f receive ≡ answered_of t f receive m
  unfolding own_of
  reached m h e = rw (h, e)

  pub found_bad : (bad : Bad) → (rule_of (opcode_of (pdu_of f))).handled ≡ true → message_of f ≡ Err (message.Bad bad)
      → own_of t f receive ≡ Drops (drop_for bad)
  unfolding answered_of
  found_bad bad h e = reached (Err (message.Bad bad)) h e

  pub found_code : (rule_of (opcode_of (pdu_of f))).handled ≡ true → message_of f ≡ Err message.PeriodCode
      → own_of t f receive ≡ cond (is_ours t.own t.losspeer f) (Drops drop.Value) (Drops drop.Destination)
  unfolding answered_of
  found_code h e = reached (Err message.PeriodCode) h e

  pub found_message : (opcode : ℕ) → (rule_of (opcode_of (pdu_of f))).handled ≡ true → message_of f ≡ Ok opcode
      → own_of t f receive ≡ cond (is_ours t.own t.losspeer f) (handle_of t (pdu_of f) receive (rule_of opcode).handler)
      (Drops drop.Destination)
  unfolding answered_of
  found_message opcode h e = reached (Ok opcode) h e
