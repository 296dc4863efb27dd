-- The statements of specs/Run.antt. Assumes nothing.
use mathlib.Core.Path.{◌≡◌, refl, ap, ◌∙◌}
use mathlib.Core.List.{List, [], ◌∷◌, ◌++◌, map}
use Rattle.base_clock.specs.Run.{after, AllGood, Runs}

after_none : {S C : Type 0} (step : S → C → S) (s : S) → after step s [] ≡ s
unfolding after
after_none step s = refl

after_one : {S C : Type 0} (step : S → C → S) (s : S) (c : C) → after step s (c ∷ []) ≡ step s c
unfolding after
after_one step s c = refl

pub after-append : {S C : Type 0} (step : S → C → S) (s : S) (cs ds : List C) → after step s (cs ++ ds) ≡ after step (after step s cs) ds
unfolding after
after-append step s [] ds = refl
after-append step s (c ∷ cs) ds = after-append step (step s c) cs ds

module _ {S C E F : Type 0} (step : S → C → S) (move : F → E → F) (field : S → F) (event : C → E) (Holds : S → Type 0)
    (Good : S → C → Type 0)
    (moves : (s : S) (c : C) → Holds s → Good s c → field (step s c) ≡ move (field s) (event c))
    (stays : (s : S) (c : C) → Holds s → Good s c → Holds (step s c)) where
  pub watched : (cs : List C) (s : S) → Holds s → AllGood step Good s cs
      → (field (after step s cs) ≡ after move (field s) (map event cs)) × Holds (after step s cs)
  unfolding after AllGood
  watched [] s h g = (refl, h)
  watched (c ∷ cs) s h g =
      let rest = watched cs (step s c) (stays s c h g.0) g.1 in
      (rest.0 ∙ ap (λ (x : F). after move x (map event cs)) (moves s c h g.0), rest.1)

pub runs : Runs
runs = record { none = after_none; one = after_one; joins = after-append; watched = watched }
