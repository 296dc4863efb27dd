-- A slot that is not there is not set. Assumes nothing.
use mathlib.Core.Path.{sym}
use lib.Seq.{set_out}
use Rattle.receive_signals.proofs.put_slot.Goals as goal

pub returns-then-slots-slot : goal.returns-then-slots-slot
returns-then-slots-slot c = let a = c.args in
    sym (set_out a.slots.now a.slot a.word c.if-slots-slot.true)
