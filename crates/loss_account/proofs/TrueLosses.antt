-- The account's arithmetic: true growth, and losses that add up. Assumes nothing.
use Prim.Native.Nat.{ℕ, ◌+◌, ◌-◌, ◌%◌, ◌^◌, ◌≤◌}
use mathlib.Core.Path.{◌≡◌, sym, ap₂, ◌∙◌}
use native.Mathlib.Omega.{arith}
use lib.IntN.{ℤ, pos, sub_ℕ, ◌+ℤ◌, ◌-ℤ◌}
use lib.Dec.{lit<}
use Rattle.base_laws.proofs.Signed.{sub-add, pos_less, sub-up}
use Rattle.loss_growth.specs.Growth.{growth}
use Rattle.loss_growth.proofs.Growing.{true_growth}
use Rattle.loss_account.specs.Account.{Truth, Grows, lost}

-- growth of a reading is true growth
pub grown : (a b : ℕ) → Grows a b → growth (2 ^ 32) (a % 2 ^ 32) (b % 2 ^ 32) ≡ b - a
grown a b g = true_growth (2 ^ 32) a b (lit< tt) g.rises g.small

rising : (a b : ℕ) → a ≤ b → pos b -ℤ pos a ≡ pos (b - a)
rising a b le = pos_less b a ∙ sub-up b a (b - a) (omega arith)

-- no true count of o is above that of t
pub record Before (o t : Truth) : Type 0 where
  pub sent : o.sent ≤ t.sent
  pub received : o.received ≤ t.received

pub plain : (o t : Truth) → Before o t → lost o t ≡ sub_ℕ (t.sent - o.sent) (t.received - o.received)
plain o t b =
    ap₂ (λ (x y : ℤ). x -ℤ y) (rising o.sent t.sent b.sent) (rising o.received t.received b.received)
    ∙ pos_less (t.sent - o.sent) (t.received - o.received)

-- losses add up
pub adds : (o t u : Truth) → Before o t → Before t u → lost o t +ℤ lost t u ≡ lost o u
adds o t u g h =
    let e : (t.sent - o.sent) + (u.sent - t.sent) ≡ u.sent - o.sent = omega arith in
    let f : (t.received - o.received) + (u.received - t.received) ≡ u.received - o.received = omega arith in
    let b : Before o u = record { sent = omega arith; received = omega arith } in
    ap₂ (λ (x y : ℤ). x +ℤ y) (plain o t g) (plain t u h)
    ∙ sub-add (t.sent - o.sent) (t.received - o.received) (u.sent - t.sent) (u.received - t.received)
    ∙ ap₂ sub_ℕ e f
    ∙ sym (plain o u b)

pub none-lost : (t : Truth) → lost t t ≡ pos 0
none-lost t =
    let e : t.sent - t.sent ≡ 0 = omega arith in
    let f : t.received - t.received ≡ 0 = omega arith in
    plain t t (record { sent = omega arith; received = omega arith }) ∙ ap₂ sub_ℕ e f
