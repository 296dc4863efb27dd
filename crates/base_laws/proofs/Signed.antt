-- The statements of specs/Signed.antt. Assumes nothing.
use Prim.Native.Nat.{ℕ, zero, suc, ◌+◌, ◌-◌, ◌<◌, ◌≤◌}
use mathlib.Core.Path.{◌≡◌, refl, sym, ap, ◌∙◌}
use mathlib.Core.Bool.{Bool, true, false, cond}
use native.Mathlib.Omega.{arith}
use lib.Dec.{ltb}
use lib.IntN.{ℤ, pos, negsuc, sub_ℕ, nat_abs, neg_ℤ, ◌+ℤ◌, ◌-ℤ◌}
use borrow.Author.Tests.{lt-ltb, le-ltb, ltb-true, ltb-false}
use Rattle.base_laws.specs.Signed.{Split, up, down, Differences}

pub split : (a b : ℕ) → Split a b (sub_ℕ a b)
split a b = go (ltb a b) refl
  where
    go : (t : Bool) → ltb a b ≡ t → Split a b (cond t (negsuc (b - suc a)) (pos (a - b)))
    go true e = down (b - suc a) (omega (arith, ltb-true a b e))
    go false e = up (a - b) (omega (arith, ltb-false a b e))

pub sub-up : (a b d : ℕ) → a ≡ b + d → sub_ℕ a b ≡ pos d
sub-up a b d e =
    let h : b ≤ a = omega arith in
    let k : a - b ≡ d = omega arith in
    rw (le-ltb a b h) (ap pos k)

pub sub-down : (a b d : ℕ) → b ≡ a + suc d → sub_ℕ a b ≡ negsuc d
sub-down a b d e =
    let h : a < b = omega arith in
    let k : b - suc a ≡ d = omega arith in
    rw (lt-ltb a b h) (ap negsuc k)

pub pos_less : (a b : ℕ) → pos a -ℤ pos b ≡ sub_ℕ a b
pos_less a zero = ap pos (omega arith) ∙ sym (sub-up a zero a (omega arith))
pos_less a (suc b) = refl

pub sub-add : (a b c d : ℕ) → sub_ℕ a b +ℤ sub_ℕ c d ≡ sub_ℕ (a + c) (b + d)
sub-add a b c d = go (sub_ℕ a b) (sub_ℕ c d) (split a b) (split c d)
  where
    -- where the signs differ, the sum is a difference again
    mixed : (m n : ℕ) → a + c + n ≡ b + d + m → {z : ℤ} → Split m n z → z ≡ sub_ℕ (a + c) (b + d)
    mixed m n e (up k g) = sym (sub-up (a + c) (b + d) k (omega arith))
    mixed m n e (down k g) = sym (sub-down (a + c) (b + d) k (omega arith))

    go : (x y : ℤ) → Split a b x → Split c d y → x +ℤ y ≡ sub_ℕ (a + c) (b + d)
    go x y (up m e) (up n f) = sym (sub-up (a + c) (b + d) (m + n) (omega arith))
    go x y (down m e) (down n f) = sym (sub-down (a + c) (b + d) (suc (m + n)) (omega arith))
    go x y (up m e) (down n f) = mixed m (suc n) (omega arith) (split m (suc n))
    go x y (down m e) (up n f) = mixed n (suc m) (omega arith) (split n (suc m))

pub sub-size : (a b n : ℕ) → a ≤ n → b ≤ n → nat_abs (sub_ℕ a b) ≤ n
sub-size a b n ha hb = go (split a b)
  where
    go : {z : ℤ} → Split a b z → nat_abs z ≤ n
    go (up d e) = omega arith
    go (down d e) = omega arith

pub add-size : (x y : ℤ) → nat_abs (x +ℤ y) ≤ nat_abs x + nat_abs y
add-size (pos a) (pos b) = omega arith
add-size (pos a) (negsuc b) = sub-size a (suc b) (a + suc b) (omega arith) (omega arith)
add-size (negsuc a) (pos b) = sub-size b (suc a) (suc a + b) (omega arith) (omega arith)
add-size (negsuc a) (negsuc b) = omega arith

neg_sub : (c d : ℕ) → neg_ℤ (sub_ℕ c d) ≡ sub_ℕ d c
neg_sub c d = go (split c d)
  where
    go : {z : ℤ} → Split c d z → neg_ℤ z ≡ sub_ℕ d c
    go (up zero e) = sym (sub-up d c 0 (omega arith))
    go (up (suc k) e) = sym (sub-down d c k (omega arith))
    go (down k e) = sym (sub-up d c (suc k) (omega arith))

pub sub-take : (a b c d : ℕ) → sub_ℕ a b -ℤ sub_ℕ c d ≡ sub_ℕ (a + d) (b + c)
sub-take a b c d = ap (λ (z : ℤ). sub_ℕ a b +ℤ z) (neg_sub c d) ∙ sub-add a b d c

neg_size : (z : ℤ) → nat_abs (neg_ℤ z) ≤ nat_abs z
neg_size (pos zero) = omega arith
neg_size (pos (suc n)) = omega arith
neg_size (negsuc n) = omega arith

pub less_size : (x y : ℤ) → nat_abs (x -ℤ y) ≤ nat_abs x + nat_abs y
less_size x y = omega (arith, add-size x (neg_ℤ y), neg_size y)

pub differences : Differences
differences =
    record {
      split = split;
      less = pos_less;
      adds = sub-add;
      takes = sub-take;
      size = λ a b n h k. omega (arith, sub-size a b n h k);
      sum_size = λ x y. omega (arith, add-size x y);
      less_size = λ x y. omega (arith, less_size x y);
    }
