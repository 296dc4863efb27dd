-- The delays of a reply. The paper, rule 8: two-way is receive stamp less TxTimeStampf; where the responder's pair is given, less its own
-- time, and each way by itself. D7 and D8 of rule 4 and of "Refusals". Definitions and statements only.
use Rattle.std.specs.Prelude.{◌^◌, ◌≡◌, Bool, true, false, cond, not, List, [], ◌∷◌, ltb, ℤ, ◌-ℤ◌, Result, Ok, Err}
use Rattle.std.specs.Int.Signed.{mag}
use Rattle.base_laws.specs.Tests.{choose}
use Rattle.base_laws.specs.Lists.{every}
use Rattle.base_stamp.specs.declared.Stamp.{Stamp}
use Rattle.receive_delay.specs.declared.NoDelay.{NoDelay}
use Rattle.receive_delay.specs.declared.DelayValues.{DelayValues}
use Rattle.receive_delay.specs.declared.NoDelay.TheVariants.{BadStamp, TooLarge}
use Rattle.receive_delay.specs.declared.DelayValues.TheVariants.{TwoWay, AllWays}
use Rattle.receive_delay.specs.Used.{between, paired, usable}
use Rattle.base_stamp.specs.Stamps.{Wire}

-- there and back, the responder's own time in it; and without it
abbrev pub there_and_back : Stamp → Stamp → ℤ
there_and_back txf here = between txf here

abbrev pub without_stay : Stamp → Stamp → Stamp → Stamp → ℤ
without_stay txf rxf txb here = between txf here -ℤ between rxf txb

-- the delays that are formed
abbrev pub formed : Stamp → Stamp → Stamp → Stamp → List ℤ
formed txf rxf txb here =
    cond (paired rxf txb)
    (without_stay txf rxf txb here ∷ between txf rxf ∷ between txb here ∷ [])
    (there_and_back txf here ∷ [])

-- a signed 64-bit number holds it: -2^63 up to 2^63 - 1 (`mag` of z below 0 is its size less 1)
abbrev pub held : ℤ → Bool
held z = ltb (mag z) (2 ^ 63)

-- in this order: D7, D8, all three delays, or two-way alone
unfoldable pub delays_of : Stamp → Stamp → Stamp → Stamp → Result DelayValues NoDelay
delays_of txf rxf txb here =
    choose (
    (not (usable txf rxf txb here), Err BadStamp)
    ∷ (not (every held (formed txf rxf txb here)), Err TooLarge)
    ∷ (paired rxf txb, Ok (AllWays (without_stay txf rxf txb here) (between txf rxf) (between txb here)))
    ∷ [])
    (Ok (TwoWay (there_and_back txf here)))

-- D8 is never given, and D7 exactly where a stamp cannot be used
pub record DelayLaws : Type 0 where
  -- D8 is never given: no four stamps of the wire are so far apart
  pub never_d8 : (txf rxf txb here : Stamp) → Wire txf → Wire rxf → Wire txb → Wire here → delays_of txf rxf txb here ≡ Err TooLarge → ⊥
  -- D7 exactly where a stamp cannot be used
  pub only_d7 : (txf rxf txb here : Stamp) → usable txf rxf txb here ≡ false → delays_of txf rxf txb here ≡ Err BadStamp
  pub no_d7 : (txf rxf txb here : Stamp) → usable txf rxf txb here ≡ true → delays_of txf rxf txb here ≡ Err BadStamp → ⊥
