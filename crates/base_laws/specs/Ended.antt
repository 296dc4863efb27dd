-- How a call ends: what it answers, and what is then in the memory that it was lent. One record for every call. Definitions only.
use Rattle.std.specs.Prelude.{ℕ, List}

-- S is what was lent to be kept, as a state is; A is what is answered. A call without a buffer leaves an empty one
pub record Ended (S A : Type 0) : Type 0 where
  pub answer : A
  pub state : S
  pub buffer : List ℕ

abbrev pub ended : {S A : Type 0} → A → S → List ℕ → Ended S A
ended answer state buffer = record { answer = answer; state = state; buffer = buffer }

-- a call that is lent a buffer alone
abbrev pub Wrote : Type 0 → Type 0
Wrote A = Ended Unit A

abbrev pub wrote : {A : Type 0} → A → List ℕ → Wrote A
wrote answer buffer = ended answer tt buffer

-- the same end, its answer in other words: in the paper's numbers
abbrev pub told_by : {S A B : Type 0} → (A → B) → Ended S A → Ended S B
told_by tell e = ended (tell e.answer) e.state e.buffer
