-- Which kind an answer is of, and which refusal or drop, so that two answers are told apart. Assumes nothing.
use Prim.Native.Nat.{ℕ}
use mathlib.Core.Bool.{Bool}
use lib.Dec.{eqb}
use Rattle.paper_said.specs.Calls.{Answer, refused, dropped, passed, taken, written, loss, delay, delays, done, standing}

-- a number for each kind, and the answer's own number where it is a refusal or a drop
unfoldable pub code_of : Answer → ℕ × ℕ
code_of (refused n) = (0, n)
code_of (dropped n) = (1, n)
code_of passed = (2, 0)
code_of taken = (3, 0)
code_of (written n) = (4, 0)
code_of (loss near far) = (5, 0)
code_of (delay twoway) = (6, 0)
code_of (delays twoway far near) = (7, 0)
code_of done = (8, 0)
code_of (standing r) = (9, 0)

abbrev pub number_in : Answer → ℕ
number_in r = (code_of r).1

abbrev pub is_refused : Answer → Bool
is_refused r = eqb (code_of r).0 0

abbrev pub is_dropped : Answer → Bool
is_dropped r = eqb (code_of r).0 1

abbrev pub is_written : Answer → Bool
is_written r = eqb (code_of r).0 4

abbrev pub is_done : Answer → Bool
is_done r = eqb (code_of r).0 8
