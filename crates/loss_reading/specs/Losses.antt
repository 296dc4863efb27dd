-- The losses of an interval, one for each direction. Definitions only.
use Rattle.std.specs.Prelude.{ℤ}
use Rattle.loss_reading.specs.declared.Losses.{Losses}

abbrev pub losses_of : ℤ → ℤ → Losses
losses_of near far = record { near = near; far = far }
