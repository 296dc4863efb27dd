-- Timers that a CCM, AIS or LCK of our level sets. The paper, rule 5: all are set to the own hold time; AIS and LCK set their timer to 3.5
-- of the period in the frame. Definitions only.
use Rattle.base_period.specs.Periods.{hold_of}
use Rattle.state_view.specs.State.{State}
use Rattle.state_view.specs.Changed.{put, heard}
use Rattle.state_view.specs.Changed as word
use Rattle.state_view.specs.WellFormed.{own_most}
use Rattle.receive_signals.specs.declared.Signal.{Signal}
use Rattle.receive_signals.specs.declared.Signal.TheVariants.{Mismerge, UnexpectedMep, Heard, UnexpectedPeriod, Alarm, Lock}

unfoldable pub signalled : State → Signal → State
signalled s Mismerge = put word.mismerge (own_most s) s
signalled s UnexpectedMep = put word.unexpected_mep (own_most s) s
signalled s (Heard slot rdi) = heard slot (own_most s) rdi s
signalled s (UnexpectedPeriod slot rdi) = put word.unexpected_period (own_most s) (heard slot (own_most s) rdi s)
signalled s (Alarm code) = put word.ais (hold_of code) s
signalled s (Lock code) = put word.lck (hold_of code) s
