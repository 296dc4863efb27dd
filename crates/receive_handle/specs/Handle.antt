-- What a good message for us does. The paper, rule 5: CCM, AIS and LCK; rule 6: which are answered; rule 7:
-- the counts of an LMR; rule 8: the delays of a DMR. Definitions only.
use Rattle.std.specs.Prelude.{ℕ, cond, List, ltb, length}
use Rattle.state_settings.specs.Settings.{Settings}
use Rattle.base_stamp.specs.declared.Stamp.{Stamp}
use Rattle.receive_delay.specs.Delays.{delays_of}
use Rattle.receive_answer.specs.declared.Drop.TheVariants as drop
use Rattle.frame_opcodes.specs.declared.Handler.{Handler}
use Rattle.frame_opcodes.specs.declared.Handler.TheVariants.{Nobody, ReaderOnly, Continuity, Loopback, Alarm, Lock, LossReply, LossRequest, DelayReply, DelayRequest}
use Rattle.frame_head.specs.Head.{flags_of, word}
use Rattle.frame_message.specs.Message.{period_code}
use Rattle.frame_measures.specs.Measures.{stamp}
use Rattle.receive_signals.specs.declared.Signal.TheVariants as signal
use Rattle.receive_peer.specs.Peers.{ccm_signal}
use Rattle.receive_change.specs.declared.Change.{Change}
use Rattle.receive_change.specs.declared.Change.TheVariants as change
use Rattle.receive_respond.specs.declared.Request.TheVariants as request
use Rattle.receive_handle.specs.declared.Decision.{Decision}
use Rattle.receive_handle.specs.declared.Decision.TheVariants.{Drops, Changes, Replies, Delays}

-- TxFCf, RxFCf, TxFCb
abbrev pub reading_in : List ℕ → Change
reading_in p = change.Reading (word 4 p) (word 8 p) (word 12 p)

abbrev pub loss_reply_of : List ℕ → Decision
loss_reply_of p = cond (ltb (length p) 16) (Drops drop.CutOff) (Changes (reading_in p))

abbrev pub delays_in : List ℕ → Stamp → Decision
delays_in p receive = Delays (delays_of (stamp 4 p) (stamp 12 p) (stamp 20 p) receive)

abbrev pub delay_reply_of : List ℕ → Stamp → Decision
delay_reply_of p receive = cond (ltb (length p) 28) (Drops drop.CutOff) (delays_in p receive)

unfoldable pub handle_of : Settings → List ℕ → Stamp → Handler → Decision
handle_of t p receive Nobody = Drops drop.Opcode
handle_of t p receive ReaderOnly = Drops drop.Opcode
handle_of t p receive Continuity = Changes (change.Told (ccm_signal t p))
handle_of t p receive Loopback = Replies request.Loopback
handle_of t p receive Alarm = Changes (change.Told (signal.Alarm (period_code (flags_of p))))
handle_of t p receive Lock = Changes (change.Told (signal.Lock (period_code (flags_of p))))
handle_of t p receive LossReply = Changes (reading_in p)
handle_of t p receive LossRequest = Replies request.Loss
handle_of t p receive DelayReply = delays_in p receive
handle_of t p receive DelayRequest = Replies request.Delay

-- how many octets of the PDU a handler cannot do without
unfoldable pub needed_by : Handler → ℕ
needed_by Nobody = 0
needed_by ReaderOnly = 0
needed_by Continuity = 0
needed_by Loopback = 0
needed_by Alarm = 0
needed_by Lock = 0
needed_by LossReply = 16
needed_by LossRequest = 0
needed_by DelayReply = 28
needed_by DelayRequest = 0

-- D5 where these are not all there; a good message has its whole fixed part (`receive_decide`), so it is never dropped for that
abbrev pub handled_of : Settings → List ℕ → Stamp → Handler → Decision
handled_of t p receive h = cond (ltb (length p) (needed_by h)) (Drops drop.CutOff) (handle_of t p receive h)
