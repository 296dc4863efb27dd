-- The statement of specs/Next.antt. Assumes nothing.
use Prim.Native.Nat.{ℕ, suc, ◌-◌, ◌≤◌, ◌<◌}
use mathlib.Core.Path.{◌≡◌, sym, ap, ◌∙◌}
use mathlib.Core.Bool.{Bool, true, false}
use mathlib.Core.List.{List}
use mathlib.Core.Logic.{⊎_elim}
use native.Mathlib.Omega.{arith}
use lib.ListN.{length}
use borrow.Author.Tests.{lt-ltb}
use Rattle.std.specs.Prelude.{Result, Ok, Option, Some, None}
use Rattle.base_laws.proofs.Tests.{known, fails}
use Rattle.state_view.specs.State.{State}
use Rattle.state_view.specs.WellFormed.{WellFormed, well_formed}
use Rattle.state_view.proofs.Rules.{well_formed_is}
use Rattle.message_ccm.specs.Continuity.{ccm_length}
use Rattle.call_send_answer.specs.declared.SendRefusal.{SendRefusal}
use Rattle.call_send_answer.specs.Told.{tick_told}
use Rattle.call_tick.specs.Tick.{next_of, tick_of}
use Rattle.call_tick.proofs.Ticks.{ticks}
use Rattle.linkbox_send.specs.Next.{ticks_to_next, CountsDown}

module _ (s : State) where
  at-bad : well_formed s ≡ false → ticks_to_next s ≡ 0
  unfolding ticks_to_next
  at-bad f = rw f

  at-good : well_formed s ≡ true → ticks_to_next s ≡ s.next
  unfolding ticks_to_next
  at-good t = rw t

  pub well : WellFormed s → ticks_to_next s ≡ s.next
  well w = at-good ((well_formed_is.well_formed_is s).1 w)

  not_well : (WellFormed s → ⊥) → ticks_to_next s ≡ 0
  not_well n = at-bad (fails (well_formed_is.well_formed_is s) n)

  none-to : ticks_to_next s ≡ 0 → WellFormed s → ⊥
  none-to e w = let n = sym (well w) ∙ e in omega (arith, n, w.some_tick)

  -- one tick is left only in a state that is well formed
  is-well : ticks_to_next s ≡ 1 → WellFormed s
  is-well e =
      ⊎_elim
      (λ (t : well_formed s ≡ true). (well_formed_is.well_formed_is s).0 t)
      (λ (f : well_formed s ≡ false). absurd (omega (arith, e, at-bad f)))
      (known (well_formed s))

  -- ── the same from what the code knows ──

  pub ends_0 : {b : Bool} → b ≡ well_formed s → b ≡ false → 0 ≡ ticks_to_next s
  ends_0 {b} e h = sym (at-bad (sym e ∙ h))

  pub ends_next : {b : Bool} → b ≡ well_formed s → b ≡ true → s.next ≡ ticks_to_next s
  ends_next {b} e h = sym (at-good (sym e ∙ h))

module _ (s : State) (buffer : List ℕ) where
  sends-to : (tick_of s buffer).answer ≡ Ok (Some ccm_length) → (ticks_to_next s ≡ 1) × (89 ≤ length buffer)
  sends-to e = let (w, one, room) = (ticks.sends s buffer).0 e in (well s w ∙ one, room)

  sends-from : (ticks_to_next s ≡ 1) × (89 ≤ length buffer) → (tick_of s buffer).answer ≡ Ok (Some ccm_length)
  sends-from h = let w = is-well s h.0 in (ticks.sends s buffer).1 (w, sym (well s w) ∙ h.0, h.1)

  -- a tick that sends nothing passes, and counts one
  left : 1 < s.next → next_of s ≡ s.next - 1
  left h = rw (lt-ltb 1 s.next h)

  lowers : (tick_of s buffer).answer ≡ Ok None → suc (ticks_to_next (tick_of s buffer).state) ≡ ticks_to_next s
  unfolding tick_told
  lowers e =
      let (w, more) = (ticks.quiet s buffer).0 e in
      let passed = ticks.passes s buffer (ap (λ (x : Result (Option ℕ) SendRefusal). (tick_told x).refusal) e) in
      let after = well (tick_of s buffer).state (ticks.stays s buffer w) ∙ ap (λ (x : State). x.next) passed ∙ left more in
      omega (arith, after, well s w, more)

pub counts-down : CountsDown
counts-down = record {
  none = λ s. (none-to s, not_well s);
  sends = λ s buffer. (sends-to s buffer, sends-from s buffer);
  lowers = lowers;
}
