-- The rule of an opcode, case by case, and the statements of specs/Opcodes.antt. Assumes nothing.
use Prim.Native.Nat.{ℕ, ◌≤◌}
use mathlib.Core.Path.{◌≡◌, refl, sym, ap, ◌∙◌}
use mathlib.Core.Bool.{Bool, true, false, not, ◌||◌, beq, false≢true}
use mathlib.Core.List.{List, [], ◌∷◌}
use mathlib.Core.Logic.{⊎_elim}
use native.Mathlib.Omega.{arith}
use lib.Dec.{ltb}
use lib.ListN.{get_or}
use borrow.Author.Tests.{ne_eqb, ltb-true, ltb-false}
use Rattle.base_laws.specs.Tests.{choose}
use Rattle.base_laws.specs.Lists.{every, every_below, absent}
use Rattle.base_laws.proofs.Everywhere.{every_is, below_is}
use Rattle.base_laws.proofs.Meanings.{absent_is}
use Rattle.base_laws.proofs.Tests.{known as if-known}
use Rattle.frame_opcodes.specs.declared.Rule.{Rule}
use Rattle.frame_opcodes.specs.Opcodes.{no_rule, rule_of, OpcodeLists}

-- an opcode that is none of the table's
module _ (op : ℕ) (n1 : op ≡ 1 → ⊥) (n2 : op ≡ 2 → ⊥) (n3 : op ≡ 3 → ⊥) (n33 : op ≡ 33 → ⊥) (n35 : op ≡ 35 → ⊥)
    (n42 : op ≡ 42 → ⊥) (n43 : op ≡ 43 → ⊥) (n46 : op ≡ 46 → ⊥) (n47 : op ≡ 47 → ⊥) where
  pub rule-none : rule_of op ≡ no_rule
  unfolding rule_of choose
  rule-none = simp ne_eqb

-- two tests that agree
agree : (a b : Bool) → beq a b ≡ true → a ≡ b
agree true true e = refl
agree true false e = absurd (false≢true e)
agree false true e = absurd (false≢true e)
agree false false e = refl

-- from 48 on nothing is listed
past : (op k : ℕ) → 48 ≤ op → ltb k 48 ≡ true → op ≡ k → ⊥
past op k h small e = omega (arith, ltb-true k 48 small)

pub rule-far : (op : ℕ) → 48 ≤ op → rule_of op ≡ no_rule
rule-far op h = search (rule-none, past)

-- a test that all rows pass: below 48 it is computed
pub every-row : (test : Rule → Bool) → test no_rule ≡ true → every_below (λ op. test (rule_of op)) 48 ≡ true → (op : ℕ)
    → test (rule_of op) ≡ true
every-row test none computed op =
    ⊎_elim
    (λ (t : ltb op 48 ≡ true). below_is (λ n. test (rule_of n)) 48 computed op (ltb-true op 48 t))
    (λ (f : ltb op 48 ≡ false). ap test (rule-far op (ltb-false op 48 f)) ∙ none)
    (if-known (ltb op 48))

-- what is handled can be read
pub handled-known : (op : ℕ) → (rule_of op).handled ≡ true → (rule_of op).known ≡ true
unfolding rule_of choose every_below
handled-known op h = go (rule_of op).handled (rule_of op).known (every-row (λ r. not r.handled || r.known) refl refl op) h where
  go : (a b : Bool) → (not a || b) ≡ true → a ≡ true → b ≡ true
  go true b e h = e
  go false b e h = absurd (false≢true h)

-- a list of the paper and a column of the table agree at every opcode: below 48 by one computed test, and from there on nothing is listed
module _ (column : Rule → Bool) (list : List ℕ) (none : column no_rule ≡ false) (small : every (λ y. ltb y 48) list ≡ true)
    (computed : every_below (λ op. beq (column (rule_of op)) (not (absent op list))) 48 ≡ true) where
  far : (op : ℕ) → 48 ≤ op → column (rule_of op) ≡ not (absent op list)
  far op h =
      ap column (rule-far op h)
      ∙ none
      ∙ sym (ap not ((absent_is op list).1 (λ i k e. omega
      (arith, ltb-true (get_or list i 0) 48 ((every_is (λ y. ltb y 48) list 0).0 small i k)))))

  listed : (op : ℕ) → column (rule_of op) ≡ not (absent op list)
  listed op =
      ⊎_elim
      (λ (t : ltb op 48 ≡ true). agree _ _ (below_is (λ n. beq (column (rule_of n)) (not (absent n list))) 48 computed op
      (ltb-true op 48 t)))
      (λ (f : ltb op 48 ≡ false). far op (ltb-false op 48 f))
      (if-known (ltb op 48))

pub opcode_lists : OpcodeLists
unfolding rule_of choose every every_below
opcode_lists = record {
  read = listed (λ r. r.known) (1 ∷ 2 ∷ 3 ∷ 33 ∷ 35 ∷ 42 ∷ 43 ∷ 46 ∷ 47 ∷ []) refl refl refl;
  handles = listed (λ r. r.handled) (1 ∷ 3 ∷ 33 ∷ 35 ∷ 42 ∷ 43 ∷ 46 ∷ 47 ∷ []) refl refl refl;
  multicasts = listed (λ r. r.multicast) (1 ∷ 3 ∷ 33 ∷ 35 ∷ 43 ∷ 47 ∷ []) refl refl refl;
  requests = listed (λ r. r.request) (3 ∷ 43 ∷ 47 ∷ []) refl refl refl;
  losspeers = listed (λ r. r.losspeer) (42 ∷ []) refl refl refl;
  periods = listed (λ r. r.period) (1 ∷ []) refl refl refl;
  alarms = listed (λ r. r.alarm) (33 ∷ 35 ∷ []) refl refl refl;
}
