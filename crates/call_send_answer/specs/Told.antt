-- The paper's numbers for each answer of a tick, of send LMM and of send DMM: the refusal, or 0, and the length of what was written.
-- Definitions only.
use Rattle.std.specs.Prelude.{ℕ, Result, Ok, Err, Option, Some, None}
use Rattle.message_parts.specs.declared.parts.WrittenTold.{WrittenTold}
use Rattle.message_parts.specs.Buffer.{tell_written}
use Rattle.call_send_answer.specs.declared.SendRefusal.{SendRefusal}
use Rattle.call_send_answer.specs.declared.SendRefusal.TheVariants as send
use Rattle.call_send_answer.specs.declared.DmmRefusal.{DmmRefusal}
use Rattle.call_send_answer.specs.declared.DmmRefusal.TheVariants as dmm

-- ── the number and the length of each answer ──

unfoldable pub tick_told : Result (Option ℕ) SendRefusal → WrittenTold
tick_told (Err send.NotWellFormed) = tell_written 2 0
tick_told (Err send.NoRoom) = tell_written 3 0
tick_told (Ok None) = tell_written 0 0
tick_told (Ok (Some n)) = tell_written 0 n

unfoldable pub lmm_told : Result ℕ SendRefusal → WrittenTold
lmm_told (Err send.NotWellFormed) = tell_written 2 0
lmm_told (Err send.NoRoom) = tell_written 3 0
lmm_told (Ok n) = tell_written 0 n

unfoldable pub dmm_told : Result ℕ DmmRefusal → WrittenTold
dmm_told (Err dmm.NotWellFormed) = tell_written 2 0
dmm_told (Err dmm.BadStamp) = tell_written 6 0
dmm_told (Err dmm.NoRoom) = tell_written 3 0
dmm_told (Ok n) = tell_written 0 n
