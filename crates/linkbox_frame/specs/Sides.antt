-- The side that a frame came from, as a number of C's: 0 is the active side, any other the passive one. The paper names two sides and no
-- third. Definitions only.
use Rattle.std.specs.Prelude.{ℕ, cond, eqb}
use Rattle.receive_class.specs.declared.Side.{Side}
use Rattle.receive_class.specs.declared.Side.TheVariants as side

abbrev pub side_of : ℕ → Side
side_of n = cond (eqb n 0) side.Active side.Passive
