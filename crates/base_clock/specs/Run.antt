-- A run of calls, and one field of the state over it, for any state, call, field and event. Definitions and statements only.
use Rattle.std.specs.Prelude.{◌≡◌, List, [], ◌∷◌, ◌++◌, map}

-- what a run leaves: each call is given what the last one left
unfoldable pub after : {S C : Type 0} → (S → C → S) → S → List C → S
after step s [] = s
after step s (c ∷ cs) = after step (step s c) cs

-- every call of the run is good in the state that it meets
unfoldable pub AllGood : {S C : Type 0} → (S → C → S) → (S → C → Type 0) → S → List C → Type 0
AllGood step Good s [] = Unit {0}
AllGood step Good s (c ∷ cs) = Good s c × AllGood step Good (step s c) cs

-- a field that each call moves as its event says is moved so over any run
pub record Runs : Type 1 where
  -- a run of no call leaves all as it was, one of one call does that call, and two runs, one after the other, are one run
  pub none : {S C : Type 0} (step : S → C → S) (s : S) → after step s [] ≡ s
  pub one : {S C : Type 0} (step : S → C → S) (s : S) (c : C) → after step s (c ∷ []) ≡ step s c
  pub joins : {S C : Type 0} (step : S → C → S) (s : S) (cs ds : List C) → after step s (cs ++ ds) ≡ after step (after step s cs) ds
  -- a field that each good call moves as its event says is, after a run, moved as the run's events say; and what each good call keeps, the
  -- run keeps
  pub watched : {S C E F : Type 0} (step : S → C → S) (move : F → E → F) (field : S → F) (event : C → E) (Holds : S → Type 0) (Good : S → C → Type 0)
      → ((s : S) (c : C) → Holds s → Good s c → field (step s c) ≡ move (field s) (event c))
      → ((s : S) (c : C) → Holds s → Good s c → Holds (step s c))
      → (cs : List C) (s : S) → Holds s → AllGood step Good s cs
      → (field (after step s cs) ≡ after move (field s) (map event cs)) × Holds (after step s cs)
