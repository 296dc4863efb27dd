-- An answer and its numbers: one that halts has 5, and no two answers have the same numbers. Assumes nothing.
use Prim.Native.Nat.{ℕ}
use mathlib.Core.Path.{◌≡◌, refl, sym, ap, ◌∙◌}
use mathlib.Core.List.{List}
use mathlib.Core.Bool.{Bool, true, false, cond}
use mathlib.Core.Logic.{⊎_elim}
use lib.Dec.{eqb}
use Rattle.std.specs.Prelude.{Result, Ok, Err}
use Rattle.base_laws.specs.Ended.{wrote}
use Rattle.loss_session.specs.declared.LossSession.{LossSession}
use Rattle.stored_replies.specs.declared.Recounted.{Recounted}
use Rattle.stored_replies.specs.declared.RecountRefusal.{RecountRefusal}
use Rattle.stored_replies.specs.declared.RecountRefusal.TheVariants.{NotWellFormed, NoRoom}
use Rattle.stored_replies.specs.Recount.{RecountTold, answered, recount_told, recount_into}
use Rattle.stored_replies.proofs.Ends.{halted-is}
use Rattle.stored_replies.proofs.Recounts.{recounts}

-- where a call ends with a number for a halt, it is 5
pub five : (s : LossSession) (octets buffer : List ℕ) {n taken : ℕ} {t : LossSession} {after : List ℕ}
    → wrote (answered 0 n taken t) after ≡ recount_into s octets buffer → (n ≡ 0 → ⊥) → n ≡ 5
five s octets buffer e some = ⊎_elim (λ z. absurd (some (halted-is e ∙ z))) (λ k. halted-is e ∙ k) (recounts.or_0 s octets buffer)

-- the answer that has these numbers
answer_of : RecountTold → Result Recounted RecountRefusal
answer_of t =
    cond (eqb t.refusal 2) (Err NotWellFormed)
    (cond (eqb t.refusal 3) (Err NoRoom) (Ok (record { halted = eqb t.halted 5; taken = t.taken; session = t.session })))

halted_back : (b : Bool) → eqb (cond b 5 0) 5 ≡ b
halted_back true = refl
halted_back false = refl

back : (s : LossSession) (r : Result Recounted RecountRefusal) → answer_of (recount_told s r) ≡ r
unfolding answer_of recount_told
back s (Err NotWellFormed) = refl
back s (Err NoRoom) = refl
back s (Ok r) = ap (λ (b : Bool). Ok (record { halted = b; taken = r.taken; session = r.session })) (halted_back r.halted)

pub told_one : (s : LossSession) {r r' : Result Recounted RecountRefusal} → recount_told s r ≡ recount_told s r' → r ≡ r'
told_one s {r} {r'} e = sym (back s r) ∙ ap answer_of e ∙ back s r'
