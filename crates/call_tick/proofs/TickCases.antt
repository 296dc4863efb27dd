-- A tick ends in one of four ways, and its answer says in which. Assumes nothing.
use Prim.Native.Nat.{ℕ, suc, ◌≤◌, ◌<◌}
use mathlib.Core.Path.{◌≡◌, refl, sym, ap, ◌∙◌}
use mathlib.Core.Bool.{true, false}
use mathlib.Core.List.{List}
use mathlib.Core.Logic.{⊎_elim}
use native.Mathlib.Omega.{arith}
use lib.Dec.{ltb, eqb}
use lib.ListN.{length}
use borrow.Author.Tests.{ltb-true, ltb-false, eqb-false}
use Rattle.std.specs.Prelude.{Result, Ok, Err, Option, Some, None}
use Rattle.base_laws.specs.Ended.{Ended, ended}
use Rattle.base_laws.proofs.Ended.{buffer-is}
use Rattle.base_laws.specs.Lists.{laid}
use Rattle.base_laws.proofs.Tests.{known, failed}
use Rattle.state_view.specs.State.{State}
use Rattle.state_view.specs.WellFormed.{WellFormed, well_formed}
use Rattle.state_view.proofs.Rules.{well_formed_is}
use Rattle.message_ccm.specs.Continuity.{ccm_length}
use Rattle.call_tick_ccm.specs.Ccm.{ccm_of}
use Rattle.call_send_answer.specs.declared.SendRefusal.{SendRefusal}
use Rattle.call_send_answer.specs.declared.SendRefusal.TheVariants.{NotWellFormed, NoRoom}
use Rattle.call_tick.specs.Tick.{ticked_of, tick_of}
use Rattle.call_tick.proofs.Ended.{at_2, at-quiet, at_3, at-sent}

pub data Case (s : State) (buffer : List ℕ) : Type 0 where
  bad : (WellFormed s → ⊥) → tick_of s buffer ≡ ended (Err NotWellFormed) s buffer → Case s buffer
  goes_on : WellFormed s → 1 < s.next → tick_of s buffer ≡ ended (Ok None) (ticked_of s) buffer → Case s buffer
  short : WellFormed s → s.next ≡ 1 → length buffer < 89 → tick_of s buffer ≡ ended (Err NoRoom) s buffer → Case s buffer
  sends : WellFormed s → s.next ≡ 1 → 89 ≤ length buffer
      → tick_of s buffer ≡ ended (Ok (Some ccm_length)) (ticked_of s) (laid 0 (ccm_of (ticked_of s)) buffer) → Case s buffer

pub most : {n : ℕ} → n ≡ 1 → n ≤ 1
most e = omega arith

pub not_both : {a b : ℕ} → a < b → b ≤ a → ⊥
not_both h k = omega arith

pub not_zero : {a n : ℕ} → a ≡ suc n → a ≡ 0 → ⊥
not_zero e h = omega arith

exactly : {n : ℕ} → 1 ≤ n → n ≤ 1 → n ≡ 1
exactly h k = omega arith

pub cases : (s : State) (buffer : List ℕ) → Case s buffer
cases s buffer = ⊎_elim good (λ f. bad (failed (well_formed_is.well_formed_is s) f) (at_2 s buffer f)) (known (well_formed s))
  where
    last : well_formed s ≡ true → s.next ≤ 1 → Case s buffer
    last t h =
        let w = (well_formed_is.well_formed_is s).0 t in
        let one = exactly w.some_tick h in
        ⊎_elim
        (λ (k : ltb (length buffer) 89 ≡ true). let l = ltb-true (length buffer) 89 k in short w one l (at_3 s buffer t h l))
        (λ (k : ltb (length buffer) 89 ≡ false). let l = ltb-false (length buffer) 89 k in sends w one l (at-sent s buffer t h l))
        (known (ltb (length buffer) 89))

    good : well_formed s ≡ true → Case s buffer
    good t =
        ⊎_elim
        (λ (k : ltb 1 s.next ≡ true). let h = ltb-true 1 s.next k in
        goes_on ((well_formed_is.well_formed_is s).0 t) h (at-quiet s buffer t h))
        (λ (k : ltb 1 s.next ≡ false). last t (ltb-false 1 s.next k))
        (known (ltb 1 s.next))

-- a number for each answer, to tell them apart
unfoldable pub numbered : Result (Option ℕ) SendRefusal → ℕ
numbered (Err NotWellFormed) = 2
numbered (Err NoRoom) = 3
numbered (Ok None) = 0
numbered (Ok (Some n)) = 1

module _ (s : State) (buffer : List ℕ) where
  abbrev o : Ended State (Result (Option ℕ) SendRefusal)
  o = tick_of s buffer

  -- an outcome with another answer is none
  not_it : {x : Ended State (Result (Option ℕ) SendRefusal)} {n : ℕ} → o ≡ x → numbered o.answer ≡ n → eqb (numbered x.answer) n ≡ false → ⊥
  not_it {x} {n} e a f = eqb-false (numbered x.answer) n f (sym (ap (λ (t : Ended State (Result (Option ℕ) SendRefusal)). numbered t.answer) e) ∙ a)

  pub is_2 : Case s buffer → numbered o.answer ≡ 2 → WellFormed s → ⊥
  unfolding numbered
  is_2 (bad n e) a w = n w
  is_2 (goes_on v h e) a w = not_it e a refl
  is_2 (short v h k e) a w = not_it e a refl
  is_2 (sends v h k e) a w = not_it e a refl

  pub is_3 : Case s buffer → numbered o.answer ≡ 3 → WellFormed s × (s.next ≡ 1) × (length buffer < 89)
  unfolding numbered
  is_3 (bad n e) a = absurd (not_it e a refl)
  is_3 (goes_on v h e) a = absurd (not_it e a refl)
  is_3 (short v h k e) a = (v, h, k)
  is_3 (sends v h k e) a = absurd (not_it e a refl)

  pub is-quiet : Case s buffer → numbered o.answer ≡ 0 → WellFormed s × (1 < s.next)
  unfolding numbered
  is-quiet (bad n e) a = absurd (not_it e a refl)
  is-quiet (goes_on v h e) a = (v, h)
  is-quiet (short v h k e) a = absurd (not_it e a refl)
  is-quiet (sends v h k e) a = absurd (not_it e a refl)

  pub is_sent : Case s buffer → numbered o.answer ≡ 1 → WellFormed s × (s.next ≡ 1) × (89 ≤ length buffer)
  unfolding numbered
  is_sent (bad n e) a = absurd (not_it e a refl)
  is_sent (goes_on v h e) a = absurd (not_it e a refl)
  is_sent (short v h k e) a = absurd (not_it e a refl)
  is_sent (sends v h k e) a = (v, h, k)

  pub writes : Case s buffer → numbered o.answer ≡ 1 → o.buffer ≡ laid 0 (ccm_of (ticked_of s)) buffer
  unfolding numbered
  writes (bad n e) a = absurd (not_it e a refl)
  writes (goes_on v h e) a = absurd (not_it e a refl)
  writes (short v h k e) a = absurd (not_it e a refl)
  writes (sends v h k e) a = buffer-is e
