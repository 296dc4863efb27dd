-- Which message an opcode and its flags are: the period code of CCM, AIS and LCK, and no test of the others. Assumes nothing.
use Prim.Native.Nat.{ℕ}
use mathlib.Core.Path.{◌≡◌}
use mathlib.Core.Bool.{true, false}
use mathlib.Core.List.{[], ◌∷◌}
use mathlib.Core.Logic.{⊎_elim}
use borrow.Author.Tests.{eq-eqb, ne_eqb}
use Rattle.std.specs.Prelude.{Ok, Err}
use Rattle.frame_message_answer.specs.declared.NoMessage.TheVariants.{PeriodCode}
use Rattle.base_laws.specs.Tests.{choose}
use Rattle.frame_opcodes.specs.Opcodes.{rule_of}
use Rattle.frame_message.specs.Message.{period_code, alarm_code, judged_of}
use Rattle.paper_said.specs.Cases.{OneOf, here, there}
use Rattle.paper_said.proofs.Rows.{first, none}

module _ {op : ℕ} (flags : ℕ) where
  pub ccm-bad : op ≡ 1 → period_code flags ≡ 0 → judged_of op flags ≡ Err PeriodCode
  unfolding judged_of rule_of choose
  ccm-bad e z = rw (e, eq-eqb (period_code flags) 0 z)

  pub ccm-good : op ≡ 1 → (period_code flags ≡ 0 → ⊥) → judged_of op flags ≡ Ok 1
  unfolding judged_of rule_of choose
  ccm-good e n = rw (e, ne_eqb (period_code flags) 0 n)

  pub lbm : op ≡ 3 → judged_of op flags ≡ Ok 3
  unfolding judged_of rule_of choose
  lbm e = rw e

  pub lmr : op ≡ 42 → judged_of op flags ≡ Ok 42
  unfolding judged_of rule_of choose
  lmr e = rw e

  pub lmm : op ≡ 43 → judged_of op flags ≡ Ok 43
  unfolding judged_of rule_of choose
  lmm e = rw e

  pub dmr : op ≡ 46 → judged_of op flags ≡ Ok 46
  unfolding judged_of rule_of choose
  dmr e = rw e

  pub dmm : op ≡ 47 → judged_of op flags ≡ Ok 47
  unfolding judged_of rule_of choose
  dmm e = rw e

-- 4 or 6
pub code-yes : {code : ℕ} → OneOf code (4 ∷ 6 ∷ []) → alarm_code code ≡ true
code-yes {code} o =
    ⊎_elim
    (λ (e : code ≡ 4). rw e)
    (λ (p : OneOf code (6 ∷ [])).
    ⊎_elim (λ (e : code ≡ 6). rw e) (λ (q : OneOf code []). absurd (none q)) (first p))
    (first o)

pub code-no : (code : ℕ) → (OneOf code (4 ∷ 6 ∷ []) → ⊥) → alarm_code code ≡ false
code-no code n = rw (ne_eqb code 4 (λ e. n (rw e here)), ne_eqb code 6 (λ e. n (rw e (there here))))

module _ {op : ℕ} (flags : ℕ) where
  pub ais-good : op ≡ 33 → OneOf (period_code flags) (4 ∷ 6 ∷ []) → judged_of op flags ≡ Ok 33
  unfolding judged_of rule_of choose
  ais-good e o = rw (e, code-yes o)

  pub lck-good : op ≡ 35 → OneOf (period_code flags) (4 ∷ 6 ∷ []) → judged_of op flags ≡ Ok 35
  unfolding judged_of rule_of choose
  lck-good e o = rw (e, code-yes o)

  alarm-at : (OneOf (period_code flags) (4 ∷ 6 ∷ []) → ⊥) → op ≡ 33 → judged_of op flags ≡ Err PeriodCode
  unfolding judged_of rule_of choose
  alarm-at n e = rw (e, code-no (period_code flags) n)

  lock_at : (OneOf (period_code flags) (4 ∷ 6 ∷ []) → ⊥) → op ≡ 35 → judged_of op flags ≡ Err PeriodCode
  unfolding judged_of rule_of choose
  lock_at n e = rw (e, code-no (period_code flags) n)

  pub alarm-bad : OneOf op (33 ∷ 35 ∷ []) → (OneOf (period_code flags) (4 ∷ 6 ∷ []) → ⊥) → judged_of op flags ≡ Err PeriodCode
  alarm-bad o n =
      ⊎_elim (alarm-at n) (λ (p : OneOf op (35 ∷ [])). ⊎_elim (lock_at n) (λ (q : OneOf op []). absurd (none q)) (first p)) (first o)
