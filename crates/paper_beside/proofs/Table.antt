-- The table of opcodes that the reader knows, and the one that the box reads. Assumes nothing.
use Prim.Native.Nat.{ℕ}
use mathlib.Core.Path.{◌≡◌, refl, sym, ap, ◌∙◌}
use mathlib.Core.List.{[], ◌∷◌}
use mathlib.Core.Bool.{true, false, not}
use mathlib.Core.Logic.{⊎_elim}
use borrow.Author.Tests.{not-true}
use Rattle.base_laws.specs.Tests.{choose}
use Rattle.base_laws.proofs.Tests.{known as if-known}
use Rattle.frame_opcodes.specs.Opcodes.{rule_of}
use Rattle.frame_opcodes.proofs.Rules.{opcode_lists}
use Rattle.paper_said.specs.Cases.{OneOf, there}
use Rattle.paper_said.specs.Drops.{ccm}
use Rattle.paper_said.proofs.Rows.{listed, found, first, row-least, row-known, handled-row}
use Rattle.paper_beside.specs.Reader.{InTable, handled as in-box, lbr}

-- ── the table of opcodes ──

pub table-least : {op least : ℕ} → InTable op least → (rule_of op).least ≡ least
unfolding rule_of choose
table-least (in-box h) = row-least h
table-least lbr = refl

pub table-known : {op least : ℕ} → InTable op least → (rule_of op).known ≡ true
unfolding rule_of choose
table-known (in-box h) = row-known h
table-known lbr = refl

-- the box's eight and the loopback reply are the nine of the list
pub in_table : (op : ℕ) → (rule_of op).known ≡ true → (least : ℕ) × InTable op least
in_table op k =
    ⊎_elim
    (λ (e : op ≡ 1). rw e (70, in-box ccm))
    (λ (o : OneOf op (2 ∷ 3 ∷ 33 ∷ 35 ∷ 42 ∷ 43 ∷ 46 ∷ 47 ∷ [])).
    ⊎_elim
    (λ (e : op ≡ 2). rw e (4, lbr))
    (λ (p : OneOf op (3 ∷ 33 ∷ 35 ∷ 42 ∷ 43 ∷ 46 ∷ 47 ∷ [])).
    let r = handled-row op (opcode_lists.handles op ∙ ap not (listed (there {y = 1} p))) in
    (r.0, in-box r.1))
    (first o))
    (first (found op _ (not-true _ (sym (opcode_lists.read op) ∙ k))))

pub not_in_table : (op : ℕ) → ((least : ℕ) → InTable op least → ⊥) → (rule_of op).known ≡ false
not_in_table op n =
    ⊎_elim
    (λ (t : (rule_of op).known ≡ true). let r = in_table op t in absurd (n r.0 r.1))
    (λ (t : (rule_of op).known ≡ false). t)
    (if-known (rule_of op).known)
