-- The statements of specs/Beat.antt. Assumes nothing.
use Prim.Native.Nat.{ℕ, suc, ◌+◌, ◌-◌, ◌*◌, ◌%◌, ◌≤◌, ◌<◌, ◌∣◌}
use mathlib.Core.Path.{◌≡◌, refl, sym, ap, ◌∙◌}
use mathlib.Core.Bool.{Bool, true, false, cond}
use mathlib.Core.Logic.{◌↔◌}
use native.Mathlib.Omega.{arith}
use mathlib.Core.List.{List, [], ◌∷◌}
use native.Mathlib.Nat.{zero-add, mod-eq-zero_of_dvd, dvd-mul_left, add-mul-mod_self_right, mod-eq_of_lt}
use lib.Dec.{leb}
use borrow.Author.Tests.{leb-true, leb-false, lt-leb}
use Rattle.base_clock.specs.Run.{after}
use Rattle.base_clock.specs.Timer.{Event, tick, set_to, other, ticks}
use Rattle.base_clock.specs.Beat.{next_count, counter_after, Beats}

-- m ticks since the last full wind-up, with c left: together q + 1 full periods
record Wound (p m c : ℕ) : Type 0 where
  pub q : ℕ
  pub low : 1 ≤ c
  pub high : c ≤ p
  pub sum : m + c ≡ q * p + p

-- one tick more
wound_tick : (p m c : ℕ) → Wound p m c → Wound p (suc m) (next_count p c)
wound_tick p m c w = pick (leb c 1) refl
  where
    pick : (b : Bool) → leb c 1 ≡ b → Wound p (suc m) (cond b p (c - 1))
    pick true e =
        let l : c ≤ 1 = leb-true c 1 e in
        let d : (w.q + 1) * p ≡ w.q * p + p = omega arith in
        record { q = w.q + 1; low = omega arith; high = omega arith; sum = omega arith }
    pick false e =
        let l : 1 < c = leb-false c 1 e in
        record { q = w.q; low = omega arith; high = omega arith; sum = omega arith }

wound_is : (p : ℕ) (es : List Event) (m c : ℕ) → Wound p m c → Wound p (ticks es + m) (counter_after p c es)
unfolding after ticks
wound_is p [] m c w = rw (zero-add m) w
wound_is p (tick ∷ es) m c w =
    let e : suc (ticks es) + m ≡ ticks es + suc m = omega arith in
    rw e (wound_is p es (suc m) (next_count p c) (wound_tick p m c w))
wound_is p (set_to h ∷ es) m c w = wound_is p es m c w
wound_is p (other ∷ es) m c w = wound_is p es m c w

wound_start : (p c : ℕ) → 1 ≤ c → c ≤ p → Wound p (p - c) c
wound_start p c h g = record { q = 0; low = h; high = g; sum = omega arith }

-- the counter is at 1 exactly where whole periods have passed
at_one : (p m c : ℕ) → Wound p m c → (c ≤ 1) ↔ (p ∣ suc m)
at_one p m c w = (to, from)
  where
    to : c ≤ 1 → p ∣ suc m
    to l =
        let e : (w.q + 1) * p ≡ suc m = omega arith in
        rw (sym e) (dvd-mul_left p (w.q + 1))

    from : p ∣ suc m → c ≤ 1
    from d = pick (leb c 1) refl
      where
        pick : (b : Bool) → leb c 1 ≡ b → c ≤ 1
        pick true e = leb-true c 1 e
        pick false e =
            let l : 1 < c = leb-false c 1 e in
            let s : suc m ≡ (p + 1 - c) + w.q * p = omega arith in
            let r : suc m % p ≡ p + 1 - c = ap (λ (n : ℕ). n % p) s ∙ add-mul-mod_self_right (p + 1 - c) w.q p
            ∙ mod-eq_of_lt (omega arith) in
            absurd (omega (arith, r, mod-eq-zero_of_dvd p d))

module _ (p c : ℕ) (es : List Event) (h : 1 ≤ c) (g : c ≤ p) where
  wound : Wound p (ticks es + (p - c)) (counter_after p c es)
  wound = wound_is p es (p - c) c (wound_start p c h g)

  pub from_count : (counter_after p c es ≤ 1) ↔ (p ∣ (suc (ticks es) + (p - c)))
  from_count =
      let e : suc (ticks es + (p - c)) ≡ suc (ticks es) + (p - c) = omega arith in
      rw (sym e) (at_one p (ticks es + (p - c)) (counter_after p c es) wound)

pub full : (p : ℕ) (es : List Event) → 1 ≤ p → (counter_after p p es ≤ 1) ↔ (p ∣ suc (ticks es))
full p es h =
    let e : suc (ticks es) + (p - p) ≡ suc (ticks es) = omega arith in
    rw e at (from_count p p es h (omega arith))

lowers : (p c : ℕ) → 2 ≤ c → counter_after p c (tick ∷ []) ≡ c - 1
unfolding after
lowers p c h = ap (λ (b : Bool). cond b p (c - 1)) (lt-leb c 1 h)

again : (p : ℕ) → counter_after p 1 (tick ∷ []) ≡ p
unfolding after
again p = refl

pub beats : Beats
beats = record {
  lowers = lowers;
  again = again;
  full = full;
  from_count = from_count;
  low = λ p c es h g. omega (arith, (wound p c es h g).low);
  high = λ p c es h g. omega (arith, (wound p c es h g).high);
}
