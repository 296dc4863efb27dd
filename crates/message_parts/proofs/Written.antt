-- What the answer of a writer tells of the buffer: too short and untouched, or long enough and written. Assumes nothing.
use Prim.Native.Nat.{ℕ, ◌≤◌, ◌<◌}
use mathlib.Core.Path.{◌≡◌, refl, sym, ap, ◌∙◌}
use mathlib.Core.Bool.{Bool, true, false, cond}
use mathlib.Core.List.{List}
use mathlib.Core.Logic.{⊎_elim}
use native.Mathlib.Omega.{arith}
use lib.ListN.{length}
use borrow.Author.Tests.{ltb-true, ltb-false, eqb-false}
use Rattle.std.specs.Prelude.{Result, Ok, Err}
use Rattle.base_laws.specs.Lists.{laid}
use Rattle.base_laws.proofs.Tests.{known}
use Rattle.message_parts.specs.declared.parts.WriteRefusal.{WriteRefusal}
use Rattle.message_parts.specs.declared.parts.WriteRefusal.TheVariants.{NoRoom}
use Rattle.message_parts.specs.Buffer.{no_room, written_of, buffer_of, written_told}

-- the two answers are apart
differ : {k : ℕ} → ◌≡◌ {A = Result ℕ WriteRefusal} (Err NoRoom) (Ok k) → ⊥
unfolding written_told
differ e = eqb-false 3 0 refl (ap (λ (w : Result ℕ WriteRefusal). (written_told w).refusal) e)

-- and so are two lengths
as_long : {k l : ℕ} → ◌≡◌ {A = Result ℕ WriteRefusal} (Ok k) (Ok l) → k ≡ l
unfolding written_told
as_long e = ap (λ (w : Result ℕ WriteRefusal). (written_told w).length) e

module _ (message buffer : List ℕ) (n : ℕ) (long : length message ≡ n) {written : Result ℕ WriteRefusal} {after : List ℕ}
    (e : written ≡ written_of message buffer) (f : after ≡ buffer_of message buffer) where
  -- the answer and the buffer, by the test
  answer : Bool → Result ℕ WriteRefusal
  answer short = cond short (Err NoRoom) (Ok (length message))

  content : Bool → List ℕ
  content short = cond short buffer (laid 0 message buffer)

  pub none : written ≡ Err NoRoom → (length buffer < n) × (after ≡ buffer)
  unfolding answer content
  none h =
      ⊎_elim
      (λ (t : no_room message buffer ≡ true).
      let k = ltb-true (length buffer) (length message) t in
      (omega arith, f ∙ ap content t))
      (λ (t : no_room message buffer ≡ false). absurd (differ (sym h ∙ e ∙ ap answer t)))
      (known (no_room message buffer))

  pub some : {k : ℕ} → written ≡ Ok k → (n ≤ length buffer) × (after ≡ laid 0 message buffer) × (k ≡ n)
  unfolding answer content
  some h =
      ⊎_elim
      (λ (t : no_room message buffer ≡ true). absurd (differ (sym (sym h ∙ e ∙ ap answer t))))
      (λ (t : no_room message buffer ≡ false).
      let k = ltb-false (length buffer) (length message) t in
      (omega arith, f ∙ ap content t, as_long (sym h ∙ e ∙ ap answer t) ∙ long))
      (known (no_room message buffer))
