-- The statements of specs/Told.antt, and that the numbers of an answer are those that the paper gives. Assumes nothing.
use mathlib.Core.Path.{◌≡◌, refl}
use mathlib.Core.Bool.{not}
use mathlib.Core.List.{[], ◌∷◌}
use lib.IntN.{pos}
use Rattle.std.specs.Prelude.{Result, Ok, Err}
use Rattle.base_laws.specs.Tests.{choose}
use Rattle.base_laws.specs.Lists.{every}
use Rattle.base_laws.proofs.Tests.{choose-map}
use Rattle.base_stamp.specs.declared.Stamp.{Stamp}
use Rattle.receive_delay.specs.declared.NoDelay.{NoDelay}
use Rattle.receive_delay.specs.declared.DelayValues.{DelayValues}
use Rattle.receive_delay.specs.declared.NoDelay.TheVariants.{BadStamp, TooLarge}
use Rattle.receive_delay.specs.declared.DelayValues.TheVariants.{TwoWay, AllWays}
use Rattle.receive_delay.specs.Used.{between, paired, usable}
use Rattle.receive_delay.specs.Delays.{there_and_back, without_stay, formed, held, delays_of}
use Rattle.receive_delay.specs.Told.{delay_told, delay_numbers, DelayNumbers}

-- the two chains have the same tests, in the same order
pub told-numbers : (txf rxf txb here : Stamp) → delay_told (delays_of txf rxf txb here) ≡ delay_numbers txf rxf txb here
unfolding delays_of delay_numbers choose delay_told
told-numbers txf rxf txb here =
    choose-map delay_told
    ((not (usable txf rxf txb here), Err BadStamp)
    ∷ (not (every held (formed txf rxf txb here)), Err TooLarge)
    ∷ (paired rxf txb, Ok (AllWays (without_stay txf rxf txb here) (between txf rxf) (between txb here)))
    ∷ [])
    (Ok (TwoWay (there_and_back txf here)))

zeros : (a : Result DelayValues NoDelay) → (((delay_told a).drop ≡ 0) → ⊥) → ((delay_told a).twoway ≡ pos 0) × ((delay_told a).far ≡ pos 0)
    × ((delay_told a).near ≡ pos 0)
unfolding delay_told
zeros (Err BadStamp) h = (refl, refl, refl)
zeros (Err TooLarge) h = (refl, refl, refl)
zeros (Ok (TwoWay t)) h = absurd (h refl)
zeros (Ok (AllWays t f n)) h = absurd (h refl)

pub delay-numbers : DelayNumbers
delay-numbers = record { zeros = zeros }
