-- The fields of loopback messages and of alarms, at their places in the PDU. The paper, "What is in a PDU": the table; the period code is
-- the low three bits of the flags. Each is 0 where the frame is bad or another message. Definitions only.
use Rattle.std.specs.Prelude.{ℕ, Bool, ◌||◌, cond, List, eqb}
use Rattle.frame_head.specs.Head.{word, pdu_of, flags_of}
use Rattle.frame_message.specs.Message.{period_code}
use Rattle.frame_message.specs.Told.{good_opcode}

-- ── 3 LBM, 2 LBR: transaction 4 ──

abbrev pub is_loopback : List ℕ → Bool
is_loopback f = eqb (good_opcode f) 3 || eqb (good_opcode f) 2

unfoldable pub transaction_of : List ℕ → ℕ
transaction_of f = cond (is_loopback f) (word 4 (pdu_of f)) 0

-- ── 33 AIS, 35 LCK: none ──

abbrev pub is_alarm : List ℕ → Bool
is_alarm f = eqb (good_opcode f) 33 || eqb (good_opcode f) 35

unfoldable pub alarm_of : List ℕ → ℕ
alarm_of f = cond (is_alarm f) (period_code (flags_of (pdu_of f))) 0
