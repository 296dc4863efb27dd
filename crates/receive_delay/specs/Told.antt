-- The paper's number and values for each case of a delay answer: any other value beside a drop is 0, and so is a one-way delay that is not
-- formed. Definitions and statements only.
use Rattle.std.specs.Prelude.{ℕ, ◌≡◌, not, [], ◌∷◌, ℤ, pos, Result, Ok, Err}
use Rattle.base_laws.specs.Tests.{choose}
use Rattle.base_laws.specs.Lists.{every}
use Rattle.base_stamp.specs.declared.Stamp.{Stamp}
use Rattle.receive_delay.specs.declared.NoDelay.{NoDelay}
use Rattle.receive_delay.specs.declared.DelayValues.{DelayValues}
use Rattle.receive_delay.specs.declared.NoDelay.TheVariants.{BadStamp, TooLarge}
use Rattle.receive_delay.specs.declared.DelayValues.TheVariants.{TwoWay, AllWays}
use Rattle.receive_delay.specs.Used.{between, paired, usable}
use Rattle.receive_delay.specs.Delays.{there_and_back, without_stay, formed, held}

-- the drop, or 0, and the three delays
pub record DelayTold : Type 0 where
  pub drop : ℕ
  pub twoway : ℤ
  pub far : ℤ
  pub near : ℤ

abbrev pub dropped : ℕ → DelayTold
dropped n = record { drop = n; twoway = pos 0; far = pos 0; near = pos 0 }

abbrev pub results : ℤ → ℤ → ℤ → DelayTold
results t f n = record { drop = 0; twoway = t; far = f; near = n }

unfoldable pub delay_told : Result DelayValues NoDelay → DelayTold
delay_told (Err BadStamp) = dropped 7
delay_told (Err TooLarge) = dropped 8
delay_told (Ok (TwoWay t)) = results t (pos 0) (pos 0)
delay_told (Ok (AllWays t f n)) = results t f n

-- what a reply is answered, in the paper's numbers alone
unfoldable pub delay_numbers : Stamp → Stamp → Stamp → Stamp → DelayTold
delay_numbers txf rxf txb here =
    choose (
    (not (usable txf rxf txb here), dropped 7)
    ∷ (not (every held (formed txf rxf txb here)), dropped 8)
    ∷ (paired rxf txb, results (without_stay txf rxf txb here) (between txf rxf) (between txb here))
    ∷ [])
    (results (there_and_back txf here) (pos 0) (pos 0))

-- beside a drop every other value is 0
pub record DelayNumbers : Type 0 where
  pub zeros : (a : Result DelayValues NoDelay) → (((delay_told a).drop ≡ 0) → ⊥) → ((delay_told a).twoway ≡ pos 0) × ((delay_told a).far ≡ pos 0) × ((delay_told a).near ≡ pos 0)
