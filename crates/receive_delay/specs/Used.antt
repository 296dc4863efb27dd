-- Which stamps a delay reply uses, and the time from one to another. The paper, rule 8; rule 4, D7. Definitions only.
use Rattle.std.specs.Prelude.{ℕ, ◌+◌, ◌*◌, Bool, ◌&&◌, ◌||◌, not, ℤ}
use Rattle.std.proofs.Math.IntN.{sub_ℕ}
use Rattle.base_stamp.specs.declared.Stamp.{Stamp}
use Rattle.base_stamp.specs.Stamps.{good, given}

-- a stamp as one number of nanoseconds
abbrev pub instant : Stamp → ℕ
instant s = s.seconds * 1000000000 + s.nanoseconds

-- from one stamp to another, sign included: the one difference for every delay
abbrev pub between : Stamp → Stamp → ℤ
between from to = sub_ℕ (instant to) (instant from)

-- the responder's two stamps are used where both are given
abbrev pub paired : Stamp → Stamp → Bool
paired rxf txb = given rxf && given txb

-- what a reply uses has not too many nanoseconds, and the caller's receive stamp is given. TxTimeStampf is used even if it is all zero
abbrev pub usable : Stamp → Stamp → Stamp → Stamp → Bool
usable txf rxf txb here = good txf && (not (paired rxf txb) || good rxf && good txb) && given here
