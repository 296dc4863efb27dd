-- The statements of specs/Tests.antt, the two cases of a Bool, and two numbers that differ. Assumes nothing.
use Prim.Native.Nat.{ℕ, suc, ◌+◌}
use mathlib.Core.Path.{◌≡◌, refl, sym, ap, ◌∙◌}
use mathlib.Core.Bool.{Bool, true, false, cond, ◌&&◌, ◌||◌, false≢true}
use mathlib.Core.List.{List, [], ◌∷◌, map}
use mathlib.Core.Logic.{◌↔◌, ◌⊎◌, inl, inr, ⊎_elim}
use native.Mathlib.Omega.{arith}
use Rattle.base_laws.specs.Tests.{choose, Chains}

-- a test holds or it does not
pub known : (b : Bool) → (b ≡ true) ⊎ (b ≡ false)
known true = inl refl
known false = inr refl

-- a test that tells whether P fails where P does not hold, and where it fails P does not hold
pub fails : {P : Type 0} {b : Bool} → (b ≡ true) ↔ P → (P → ⊥) → b ≡ false
fails {b = b} tells n = ⊎_elim (λ t. absurd (n (tells.0 t))) (λ f. f) (known b)

pub failed : {P : Type 0} {b : Bool} → (b ≡ true) ↔ P → b ≡ false → P → ⊥
failed tells f p = false≢true (sym f ∙ tells.1 p)

-- two numbers, one of them greater, are not one
pub differ : (n m k : ℕ) → n ≡ m → n ≡ m + suc k → ⊥
differ n m k e f = omega arith

pub both_true : (a b : Bool) → ((a && b) ≡ true) ↔ ((a ≡ true) × (b ≡ true))
both_true true b = (λ h. (refl, h), λ h. h.1)
both_true false b = (λ h. absurd (false≢true h), λ h. h.0)

-- the same, one way at a time
pub split : (a b : Bool) → (a && b) ≡ true → (a ≡ true) × (b ≡ true)
split a b = (both_true a b).0

pub join : (a b : Bool) → a ≡ true → b ≡ true → (a && b) ≡ true
join a b h k = (both_true a b).1 (h, k)

-- tests one behind the other: one that holds leaves it to the rest, and the first that fails decides
pub passes : {a b r : Bool} → a ≡ true → r ≡ b → r ≡ (a && b)
passes h e = rw h e

pub stops : (a b : Bool) → a ≡ false → false ≡ (a && b)
stops a b h = rw h

pub either_true : (a b : Bool) → ((a || b) ≡ true) ↔ ((a ≡ true) ⊎ (b ≡ true))
either_true true b = (λ h. inl refl, λ h. refl)
either_true false b = (λ h. inr h, ⊎_elim (λ h. absurd (false≢true h)) (λ h. h))

pub choose-holds : {A : Type 0} (outcome : A) (rules : List (Bool × A)) (otherwise : A)
    → choose ((true, outcome) ∷ rules) otherwise ≡ outcome
unfolding choose
choose-holds outcome rules otherwise = refl

pub choose-fails : {A : Type 0} (outcome : A) (rules : List (Bool × A)) (otherwise : A)
    → choose ((false, outcome) ∷ rules) otherwise ≡ choose rules otherwise
unfolding choose
choose-fails outcome rules otherwise = refl

pub choose-none : {A : Type 0} (otherwise : A) → choose [] otherwise ≡ otherwise
unfolding choose
choose-none otherwise = refl

pub choose-map : {A B : Type 0} (f : A → B) (rules : List (Bool × A)) (otherwise : A)
    → f (choose rules otherwise) ≡ choose (map (λ rule. (rule.0, f rule.1)) rules) (f otherwise)
unfolding choose
choose-map f [] otherwise = refl
choose-map f (rule ∷ rules) otherwise =
    either rule.0 rule.1 (choose rules otherwise) ∙ ap (λ x. cond rule.0 (f rule.1) x) (choose-map f rules otherwise)
  where
    either : (b : Bool) (x y : _) → f (cond b x y) ≡ cond b (f x) (f y)
    either true x y = refl
    either false x y = refl

pub chains : Chains
chains =
    record { holds = choose-holds; fails = choose-fails; none = choose-none; mapped = choose-map; both = both_true; either = either_true }
