-- `base_number_write::digits_before` meets its contract. The loop's invariant: the last digits are laid, and `rest` is the size without
-- them. The measure is `rest`.
use Rattle.base_number_write.proofs.Turns.{Writing}
use Rattle.base_number_write.proofs.digits_before.Given as goal

abbrev pub invariant-loop-rest : goal.invariant-loop-rest
invariant-loop-rest l = Writing l.end l.size l.initial.into l.into l.rest l.at

abbrev pub decreases-loop-rest : goal.decreases-loop-rest
decreases-loop-rest l = l.rest
