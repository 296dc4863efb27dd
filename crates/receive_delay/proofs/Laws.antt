-- The statements of specs/Delays.antt, and the cases of a reply as laws that others cite. Assumes nothing.
use Prim.Native.Nat.{ℕ, ◌^◌, ◌≤◌, ◌<◌}
use mathlib.Core.Path.{◌≡◌, refl, sym, ap, ◌∙◌}
use mathlib.Core.Bool.{Bool, true, false, cond}
use mathlib.Core.Logic.{⊎_elim}
use native.Mathlib.Omega.{arith}
use lib.IntN.{ℤ, pos, negsuc, nat_abs, ◌-ℤ◌}
use borrow.Author.Tests.{lt-ltb}
use Rattle.std.specs.Prelude.{Result, Ok, Err}
use Rattle.base_laws.specs.Tests.{choose}
use Rattle.base_laws.specs.Lists.{every}
use Rattle.base_laws.proofs.Tests.{known}
use Rattle.base_laws.proofs.Signed.{sub-size, less_size}
use Rattle.base_stamp.specs.declared.Stamp.{Stamp}
use Rattle.receive_delay.specs.declared.NoDelay.{NoDelay}
use Rattle.receive_delay.specs.declared.DelayValues.{DelayValues}
use Rattle.receive_delay.specs.declared.NoDelay.TheVariants.{BadStamp, TooLarge}
use Rattle.receive_delay.specs.declared.DelayValues.TheVariants.{TwoWay, AllWays}
use Rattle.receive_delay.specs.Used.{instant, between, paired, usable}
use Rattle.base_stamp.specs.Stamps.{Wire}
use Rattle.receive_delay.specs.Delays.{there_and_back, without_stay, formed, held, delays_of, DelayLaws}

-- ── sizes ──

-- no two stamps of the wire are further apart
abbrev pub furthest : ℕ
furthest = 4294967299294967295

pub between-size : (a b : Stamp) → Wire a → Wire b → nat_abs (between a b) ≤ furthest
between-size a b wa wb =
    let ha : instant a ≤ furthest = omega (arith, wa.seconds, wa.nanoseconds) in
    let hb : instant b ≤ furthest = omega (arith, wb.seconds, wb.nanoseconds) in
    sub-size (instant b) (instant a) furthest hb ha

pub stay_size : (x y : ℤ) → nat_abs x ≤ furthest → nat_abs y ≤ furthest → nat_abs (x -ℤ y) < 2 ^ 63
stay_size x y hx hy = omega (arith, less_size x y)

held-size : (z : ℤ) → nat_abs z < 2 ^ 63 → held z ≡ true
held-size (pos n) h = lt-ltb n (2 ^ 63) h
held-size (negsuc n) h = lt-ltb n (2 ^ 63) (omega arith)

-- ── the cases ──

module _ (txf rxf txb here : Stamp) where
  pub delays-bad : usable txf rxf txb here ≡ false → delays_of txf rxf txb here ≡ Err BadStamp
  unfolding delays_of choose
  delays-bad u = rw u

  module _ (u : usable txf rxf txb here ≡ true) (all : nat_abs (between txf here) ≤ furthest) where
    pub delays-two : paired rxf txb ≡ false → delays_of txf rxf txb here ≡ Ok (TwoWay (between txf here))
    unfolding delays_of choose every
    delays-two p = rw (u, p, held-size (between txf here) (omega arith))

    pub delays-all : paired rxf txb ≡ true → nat_abs (between rxf txb) ≤ furthest → nat_abs (between txf rxf) ≤ furthest
        → nat_abs (between txb here) ≤ furthest
        → delays_of txf rxf txb here ≡ Ok (AllWays (without_stay txf rxf txb here) (between txf rxf) (between txb here))
    unfolding delays_of choose every
    delays-all p stay far near =
        rw (
          u,
          p,
          held-size (without_stay txf rxf txb here) (stay_size (between txf here) (between rxf txb) all stay),
          held-size (between txf rxf) (omega arith),
          held-size (between txb here) (omega arith),
        )

-- ── what is said ──

-- the drop of an answer, and 1 where it is none
numbered : Result DelayValues NoDelay → ℕ
numbered (Err BadStamp) = 7
numbered (Err TooLarge) = 8
numbered (Ok (TwoWay t)) = 1
numbered (Ok (AllWays t f n)) = 1

module _ (txf rxf txb here : Stamp) where
  apart : (a b : Result DelayValues NoDelay) → delays_of txf rxf txb here ≡ a → delays_of txf rxf txb here ≡ b → numbered a ≡ numbered b
  apart a b p q = ap numbered (sym p ∙ q)

  never_d8 : Wire txf → Wire rxf → Wire txb → Wire here → delays_of txf rxf txb here ≡ Err TooLarge → ⊥
  unfolding numbered
  never_d8 wt wr wb wh e =
      ⊎_elim
      (λ u.
      let all = between-size txf here wt wh in
      ⊎_elim
      (λ p. omega (
        arith,
        apart _ _ (delays-all txf rxf txb here u all p (between-size rxf txb wr wb) (between-size txf rxf wt wr)
            (between-size txb here wb wh)) e,
      ))
      (λ p. omega (arith, apart _ _ (delays-two txf rxf txb here u all p) e))
      (known (paired rxf txb)))
      (λ u. omega (arith, apart _ _ (delays-bad txf rxf txb here u) e))
      (known (usable txf rxf txb here))

  large : usable txf rxf txb here ≡ true → every held (formed txf rxf txb here) ≡ false → delays_of txf rxf txb here ≡ Err TooLarge
  unfolding delays_of choose
  large u h = rw (u, h)

  measured : usable txf rxf txb here ≡ true → every held (formed txf rxf txb here) ≡ true → numbered (delays_of txf rxf txb here) ≡ 1
  unfolding delays_of choose numbered
  measured u h = rw (u, h) (either (paired rxf txb))
    where
      either : (b : Bool) → numbered (cond b (Ok (AllWays (without_stay txf rxf txb here) (between txf rxf) (between txb here)))
          (Ok (TwoWay (there_and_back txf here)))) ≡ 1
      either true = refl
      either false = refl

  no_d7 : usable txf rxf txb here ≡ true → delays_of txf rxf txb here ≡ Err BadStamp → ⊥
  unfolding numbered
  no_d7 u e =
      ⊎_elim
      (λ h. omega (arith, measured u h, ap numbered e))
      (λ h. omega (arith, apart _ _ (large u h) e))
      (known (every held (formed txf rxf txb here)))

pub delay_laws : DelayLaws
delay_laws = record { never_d8 = never_d8; only_d7 = delays-bad; no_d7 = no_d7 }
