-- `receive_delay::stamps_good` meets its contract: the code's `&`, `|` and `!` are the definition's.
use mathlib.Core.Path.{◌≡◌, refl}
use mathlib.Core.Bool.{Bool, ◌&&◌, ◌||◌, not}
use Rattle.base_stamp.specs.declared.Stamp.{Stamp}
use Rattle.base_stamp.specs.Stamps.{good, given}
use Rattle.receive_delay.specs.Used.{paired, usable}
use Rattle.receive_delay.proofs.stamps_good.Goals as goal

-- the test, made of what the five calls answered

joined : (txf rxf txb here : Stamp) (a p b c g : Bool) → a ≡ good txf → p ≡ paired rxf txb → b ≡ good rxf → c ≡ good txb → g ≡ given here
    → a && (not p || b && c) && g ≡ usable txf rxf txb here
joined txf rxf txb here a p b c g ea ep eb ec eg = rw (ea, ep, eb, ec, eg) refl

pub returns : goal.returns
returns c = let b = c in
    let a = b in
    let p = a in
    let o = c.args in
    joined o.txf o.rxf o.txb o.here _ _ _ _ _ p.good_stamp.ensures p.pair.ensures a.good_stamp-2.ensures
    b.good_stamp-3.ensures c.given_stamp.ensures
