-- What is done with a frame, from the settings and the frame alone. The paper, rules 1 to 4. Definitions only.
use Rattle.std.specs.Prelude.{ℕ, Bool, ◌&&◌, cond, List, eqb, Result, Ok, Err}
use Rattle.state_settings.specs.Settings.{Settings}
use Rattle.frame_message_answer.specs.declared.NoMessage.{NoMessage}
use Rattle.frame_message_answer.specs.declared.NoMessage.TheVariants as message
use Rattle.base_stamp.specs.declared.Stamp.{Stamp}
use Rattle.receive_answer.specs.declared.Drop.{Drop}
use Rattle.receive_answer.specs.declared.Drop.TheVariants as drop
use Rattle.frame_reader_answer.specs.declared.Bad.{Bad}
use Rattle.frame_reader_answer.specs.declared.Bad.TheVariants.{Length, Short, Opcode, Offset, CutOff}
use Rattle.frame_head.specs.Head.{destination_of, source_of, pdu_of, level_of, opcode_of}
use Rattle.frame_opcodes.specs.Opcodes.{rule_of}
use Rattle.frame_message.specs.Message.{message_of}
use Rattle.frame_message.specs.Told.{good_opcode}
use Rattle.receive_class.specs.declared.Side.{Side}
use Rattle.receive_class.specs.declared.Side.TheVariants.{Active, Passive}
use Rattle.receive_class.specs.declared.Class.{Class}
use Rattle.receive_class.specs.declared.Class.TheVariants as class
use Rattle.receive_class.specs.Class.{class_of}
use Rattle.receive_for_us.specs.Ours.{for_us}
use Rattle.receive_change.specs.declared.Change.{Change}
use Rattle.receive_change.specs.declared.Change.TheVariants as change
use Rattle.receive_handle.specs.declared.Decision.{Decision}
use Rattle.receive_handle.specs.declared.Decision.TheVariants.{Drops, Passes, Changes}
use Rattle.receive_handle.specs.Handle.{handle_of}

-- not D6: the frame is for the box of these two addresses, ours and the loss peer's
abbrev pub is_ours : List ℕ → List ℕ → List ℕ → Bool
is_ours own losspeer f = for_us own losspeer (rule_of (opcode_of (pdu_of f))) (level_of (pdu_of f)) (destination_of f) (source_of f)

-- rule 1: its side's count
unfoldable pub count_of : Side → Change
count_of Active = change.Received
count_of Passive = change.Sent

-- rule 3: D2; if it is a CCM that passes D4 to D7, that is remembered
unfoldable pub below_of : List ℕ → List ℕ → List ℕ → Decision
below_of own losspeer f = cond (eqb (good_opcode f) 1 && is_ours own losspeer f) (Changes change.UnexpectedLevel) (Drops drop.Level)

-- rule 4: what the reader finds, as a drop; refusal 1 comes before
unfoldable pub drop_for : Bad → Drop
drop_for Length = drop.Short
drop_for Short = drop.Short
drop_for Opcode = drop.Opcode
drop_for Offset = drop.Offset
drop_for CutOff = drop.CutOff

-- D4 and D5, then D6, then D7, then the handler
unfoldable pub answered_of : Settings → List ℕ → Stamp → Result ℕ NoMessage → Decision
answered_of t f receive (Err (message.Bad bad)) = Drops (drop_for bad)
answered_of t f receive (Err message.PeriodCode) = cond (is_ours t.own t.losspeer f) (Drops drop.Value) (Drops drop.Destination)
answered_of t f receive (Ok opcode) = cond (is_ours t.own t.losspeer f) (handle_of t (pdu_of f) receive (rule_of opcode).handler) (Drops drop.Destination)

-- D3 before them all: the loopback reply, which the reader knows, is not handled
unfoldable pub own_of : Settings → List ℕ → Stamp → Decision
own_of t f receive = cond (rule_of (opcode_of (pdu_of f))).handled (answered_of t f receive (message_of f)) (Drops drop.Opcode)

-- rules 1 to 4, by the frame's class
unfoldable pub by_class : Settings → Side → List ℕ → Stamp → Class → Decision
by_class t side f receive class.Service = Changes (count_of side)
by_class t side f receive class.Short = Drops drop.Short
by_class t side f receive class.Above = Passes
by_class t side f receive class.Inside = Drops drop.Level
by_class t side f receive class.Below = below_of t.own t.losspeer f
by_class t side f receive class.Own = own_of t f receive

unfoldable pub decide_of : Settings → Side → List ℕ → Stamp → Decision
decide_of t side f receive = by_class t side f receive (class_of t.level side f)
