-- How a call that sends a message ends, from what its code knows: one of its refusals, refusal 3, or the message written. Whatever state,
-- answers, refusals and octets. Assumes nothing.
use Prim.Native.Nat.{ℕ}
use mathlib.Core.Path.{◌≡◌, refl, sym, ap, ap₂, ◌∙◌}
use mathlib.Core.Bool.{Bool, true, false, not, cond}
use mathlib.Core.List.{List, [], ◌∷◌}
use lib.Dec.{ltb}
use lib.ListN.{length}
use borrow.Author.Tests.{lt-ltb, le-ltb}
use Rattle.std.specs.Prelude.{Result, Ok, Err}
use Rattle.base_laws.specs.Ended.{Ended, ended}
use Rattle.base_laws.specs.Tests.{choose}
use Rattle.base_laws.specs.Lists.{laid}
use Rattle.message_parts.specs.declared.parts.WriteRefusal.{WriteRefusal}
use Rattle.message_parts.specs.declared.parts.WriteRefusal.TheVariants as written
use Rattle.message_parts.specs.Buffer.{written_of, buffer_of}
use Rattle.message_parts.proofs.Written.{none, some}

-- the chain of rules ends so
pub record Ends {X : Type 0} (rules : List (Bool × X)) (otherwise y : X) : Type 0 where
  pub is : choose rules otherwise ≡ y

-- as it does
pub so : {X : Type 0} {z : X} {rules : List (Bool × X)} → Ends rules z (choose rules z)
so = record { is = refl }

pub holds : {X : Type 0} {x z : X} {rules : List (Bool × X)} {t : Bool} → t ≡ true → Ends ((t, x) ∷ rules) z x
unfolding choose
holds {x = x} {z = z} {rules = rules} h = record { is = ap (λ b. cond b x (choose rules z)) h }

pub passes : {X : Type 0} {x y z : X} {rules : List (Bool × X)} {t : Bool} → t ≡ false → Ends rules z y → Ends ((t, x) ∷ rules) z y
unfolding choose
passes {x = x} {z = z} {rules = rules} h k = record { is = ap (λ b. cond b x (choose rules z)) h ∙ k.is }

-- the code has b for the test t, and the rule is that t does not hold
pub taken : {X : Type 0} {x z : X} {rules : List (Bool × X)} {b t : Bool} → b ≡ t → not b ≡ true → Ends ((not t, x) ∷ rules) z x
taken e h = holds (ap not (sym e) ∙ h)

pub left : {X : Type 0} {x y z : X} {rules : List (Bool × X)} {b t : Bool}
    → b ≡ t → not b ≡ false → Ends rules z y → Ends ((not t, x) ∷ rules) z y
left e h k = passes (ap not (sym e) ∙ h) k

-- a message is not written for one reason alone
pub only : (refusal : WriteRefusal) → refusal ≡ written.NoRoom
only written.NoRoom = refl

-- the last rule, refusal 3, from what the writer of the message has answered and left
module _ (message buffer : List ℕ) (n : ℕ) (long : length message ≡ n) {answer : Result ℕ WriteRefusal} {after : List ℕ}
    (wrote : answer ≡ written_of message buffer) (over : after ≡ buffer_of message buffer) where
  pub short : {S A : Type 0} {s : S} {a : A} {z : Ended S A} → answer ≡ Err written.NoRoom
      → Ends ((ltb (length buffer) n, ended a s buffer) ∷ []) z (ended a s after)
  short {s = s} {a = a} e =
      let found = none message buffer n long wrote over e in
      record { is = (holds (lt-ltb (length buffer) n found.0)).is ∙ ap (λ y. ended a s y) (sym found.1) }

  pub sent : {S A : Type 0} (f : ℕ → A) {s : S} {x : Ended S A} {k : ℕ} → answer ≡ Ok k
      → Ends ((ltb (length buffer) n, x) ∷ []) (ended (f n) s (laid 0 message buffer)) (ended (f k) s after)
  unfolding choose
  sent f {s = s} e =
      let found = some message buffer n long wrote over e in
      passes (le-ltb (length buffer) n found.0) (record { is = ap₂ (λ m y. ended (f m) s y) (sym found.2) (sym found.1) })
