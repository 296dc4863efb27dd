-- Two ends that are one agree in each part. Assumes nothing.
use Prim.Native.Nat.{ℕ}
use mathlib.Core.Path.{◌≡◌, ap, ◌∙◌}
use mathlib.Core.List.{List}
use Rattle.base_laws.specs.Ended.{Ended, ended, told_by}

module _ {S A : Type 0} {x y : Ended S A} (e : x ≡ y) where
  pub answer-is : x.answer ≡ y.answer
  answer-is = ap (λ (t : Ended S A). t.answer) e

  pub state-is : x.state ≡ y.state
  state-is = ap (λ (t : Ended S A). t.state) e

  pub buffer-is : x.buffer ≡ y.buffer
  buffer-is = ap (λ (t : Ended S A). t.buffer) e

-- what was answered, told in other words, and the memory as it lies
pub told-by : {S A B : Type 0} (tell : A → B) {r : A} {n : B} {x : S} {b : List ℕ} {e : Ended S A} → n ≡ tell r → ended r x b ≡ e
    → ended n x b ≡ told_by tell e
told-by tell {x = x} {b = b} m e = ap (λ n. ended n x b) m ∙ ap (told_by tell) e
