-- The fields of the messages that measure, at their places in the PDU. The paper, "What is in a PDU": the table. All are 0 where the frame
-- is bad or another message. Definitions only.
use Rattle.std.specs.Prelude.{ℕ, ◌+◌, Bool, ◌||◌, cond, List, eqb}
use Rattle.base_stamp.specs.declared.Stamp.{Stamp}
use Rattle.base_stamp.specs.Stamps.{not_given}
use Rattle.frame_head.specs.Head.{word, pdu_of}
use Rattle.frame_measures.specs.declared.LossFields.{LossFields}
use Rattle.frame_measures.specs.declared.DelayFields.{DelayFields}
use Rattle.frame_message.specs.Told.{good_opcode}

-- a stamp at a place of the PDU
abbrev pub stamp : ℕ → List ℕ → Stamp
stamp at p = record { seconds = word at p; nanoseconds = word (at + 4) p }

-- ── 43 LMM, 42 LMR: TxFCf, RxFCf, TxFCb, 4 each ──

abbrev pub is_loss : List ℕ → Bool
is_loss f = eqb (good_opcode f) 43 || eqb (good_opcode f) 42

abbrev pub loss_in : List ℕ → LossFields
loss_in p = record { txfcf = word 4 p; rxfcf = word 8 p; txfcb = word 12 p }

abbrev pub no_loss : LossFields
no_loss = record { txfcf = 0; rxfcf = 0; txfcb = 0 }

unfoldable pub loss_of : List ℕ → LossFields
loss_of f = cond (is_loss f) (loss_in (pdu_of f)) no_loss

-- ── 47 DMM, 46 DMR: TxTimeStampf, RxTimeStampf, TxTimeStampb, 8 each ──

abbrev pub is_delay : List ℕ → Bool
is_delay f = eqb (good_opcode f) 47 || eqb (good_opcode f) 46

abbrev pub delay_in : List ℕ → DelayFields
delay_in p = record { txtimestampf = stamp 4 p; rxtimestampf = stamp 12 p; txtimestampb = stamp 20 p }

abbrev pub no_delay : DelayFields
no_delay = record { txtimestampf = not_given; rxtimestampf = not_given; txtimestampb = not_given }

unfoldable pub delay_of : List ℕ → DelayFields
delay_of f = cond (is_delay f) (delay_in (pdu_of f)) no_delay
