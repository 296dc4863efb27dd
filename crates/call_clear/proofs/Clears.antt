-- How a clear ends, and the statement of specs/Clear.antt. Assumes nothing.
use Prim.Native.Nat.{ℕ}
use mathlib.Core.Path.{◌≡◌, refl, sym, ap, ◌∙◌}
use mathlib.Core.List.{[]}
use mathlib.Core.Bool.{Bool, true, false, not}
use mathlib.Core.Logic.{⊎_elim}
use borrow.Author.Tests.{not-true, not-false, eqb-false}
use Rattle.std.specs.Prelude.{Result, Ok, Err}
use Rattle.base_laws.specs.Ended.{Ended, ended}
use Rattle.base_laws.proofs.Ended.{answer-is, state-is}
use Rattle.base_laws.proofs.Tests.{known, fails}
use Rattle.loss_session.specs.declared.LossSession.{LossSession}
use Rattle.loss_session.specs.Session.{cleared_session}
use Rattle.loss_session.proofs.Laws.{cleared_well}
use Rattle.state_view.specs.State.{State}
use Rattle.state_view.specs.WellFormed.{WellFormed, well_formed}
use Rattle.state_view.specs.Changed.{with_session}
use Rattle.state_view.proofs.Rules.{session-put, well_formed_is}
use Rattle.call_clear.specs.declared.ClearRefusal.{ClearRefusal}
use Rattle.call_clear.specs.declared.ClearRefusal.TheVariants.{NotWellFormed}
use Rattle.call_clear.specs.Clear.{clear_of, clear_told, clear_numbers, Clears}

module _ (s : State) where
  pub at_2 : well_formed s ≡ false → clear_of s ≡ ended (Err NotWellFormed) s []
  unfolding clear_of
  at_2 f = rw f

  pub at-cleared : well_formed s ≡ true → clear_of s ≡ ended (Ok tt) (with_session cleared_session s) []
  unfolding clear_of
  at-cleared t = rw t

  agree : clear_told (clear_of s).answer ≡ clear_numbers s
  unfolding clear_of clear_told
  agree = ⊎_elim (λ t. rw t) (λ f. rw f) (known (well_formed s))

  -- ── the same from what the code knows ──

  -- r and x are the outcome, and r is told by its number
  abbrev Outcome : Result Unit ClearRefusal → State → Type 0
  Outcome r x = (ended r x [] ≡ clear_of s) × (clear_told r ≡ clear_numbers s)

  numbered : {r : Result Unit ClearRefusal} {x : State} → clear_of s ≡ ended r x [] → Outcome r x
  numbered e = (sym e, ap (λ (t : Ended State (Result Unit ClearRefusal)). clear_told t.answer) (sym e) ∙ agree)

  pub ends_2 : {b : Bool} → b ≡ well_formed s → not b ≡ true → Outcome (Err NotWellFormed) s
  ends_2 {b} e h = numbered (at_2 (sym e ∙ not-true b h))

  pub ends-cleared : {b : Bool} {x : LossSession} {y : State} → b ≡ well_formed s → not b ≡ false → x ≡ cleared_session → y ≡ with_session x s
      → Outcome (Ok tt) y
  ends-cleared {b} e h f g =
      numbered (at-cleared (sym e ∙ not-false b h)
      ∙ ap (λ (y : State). ended (Ok tt) y []) (sym (g ∙ ap (λ (x : LossSession). with_session x s) f)))

  -- ── the statement ──

  well : WellFormed s → clear_of s ≡ ended (Ok tt) (with_session cleared_session s) []
  well w = at-cleared ((well_formed_is.well_formed_is s).1 w)

  not_well : (WellFormed s → ⊥) → clear_of s ≡ ended (Err NotWellFormed) s []
  not_well n = at_2 (fails (well_formed_is.well_formed_is s) n)

  stays : WellFormed s → WellFormed (clear_of s).state
  stays w = rw (well w) (session-put s cleared_session cleared_well w)

  others : (clear_of s).state ≡ with_session (clear_of s).state.session s
  unfolding clear_of
  others = ⊎_elim (λ t. rw t) (λ f. rw f) (known (well_formed s))

-- a number for each answer, to tell them apart
apart : Result Unit ClearRefusal → ℕ
apart (Err NotWellFormed) = 2
apart (Ok u) = 0

is_2 : (s : State) → (clear_of s).answer ≡ Err NotWellFormed → WellFormed s → ⊥
unfolding apart
is_2 s e w = eqb-false 0 2 refl (ap apart (sym (answer-is (well s w)) ∙ e))

pub clears : Clears
clears = record {
  stays = stays;
  refuses_2 = λ s. (is_2 s, λ n. answer-is (not_well s n));
  refused = λ s n. state-is (not_well s n);
  forgets = λ s w. ap (λ (t : Ended State (Result Unit ClearRefusal)). t.state.session) (well s w);
  others = others;
  agree = agree;
}
