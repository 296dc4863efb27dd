-- What the paper says of a call, whatever it is, and how a tree of tests comes to it. Assumes nothing.
use mathlib.Core.Path.{◌≡◌, refl, sym, ◌∙◌}
use mathlib.Core.Bool.{Bool, true, false, true≢false}
use mathlib.Core.Logic.{⊎_elim, ◌⊎◌, inl, inr}
use Rattle.base_laws.proofs.Tests.{known as if-known}
use Rattle.state_view.specs.State.{State}
use Rattle.paper_said.specs.Calls.{ArrivalSide, active, passive, Call, Outcome}
use Rattle.paper_said.specs.Said.{Said}

-- what the paper says of a call, whatever it is
abbrev pub Something : State → Call → Type 0
Something s c = (o : Outcome) × Said s c o

-- by a test, with what it found
pub split : {X : Type 0} (b : Bool) → (b ≡ true → X) → (b ≡ false → X) → X
split b true-then false-then = ⊎_elim true-then false-then (if-known b)

pub clash : {b : Bool} {X : Type 0} → b ≡ true → b ≡ false → X
clash t f = absurd (true≢false (sym t ∙ f))

pub either : (d : ArrivalSide) → (d ≡ active) ⊎ (d ≡ passive)
either active = inl refl
either passive = inr refl
