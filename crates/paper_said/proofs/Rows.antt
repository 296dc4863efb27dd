-- The paper's lists of opcodes, and the table that the box reads. Assumes nothing.
use Prim.Native.Nat.{ℕ}
use mathlib.Core.Path.{◌≡◌, refl, sym, ap, ◌∙◌}
use mathlib.Core.Bool.{Bool, true, false, not, ◌&&◌, false≢true, true≢false}
use mathlib.Core.List.{List, [], ◌∷◌}
use mathlib.Core.Logic.{⊎_elim, ◌⊎◌, inl, inr}
use lib.Dec.{eqb}
use borrow.Author.Tests.{eqb-true, eq-eqb, not-true}
use Rattle.base_laws.specs.Tests.{choose}
use Rattle.base_laws.specs.Lists.{every, absent}
use Rattle.base_laws.proofs.Tests.{known as if-known}
use Rattle.frame_opcodes.specs.Opcodes.{rule_of}
use Rattle.frame_opcodes.proofs.Rules.{opcode_lists}
use Rattle.paper_said.specs.Cases.{OneOf, here, there}
use Rattle.paper_said.specs.Drops.{Handled, ccm, lbm, ais, lck, lmr, lmm, dmr, dmm}

both : (a b : Bool) → b ≡ false → (a && b) ≡ false
both true b e = e
both false b e = refl

-- a number of a list is not absent from it
pub listed : {x : ℕ} {l : List ℕ} → OneOf x l → absent x l ≡ false
unfolding every
listed {x} here = rw (eq-eqb x x refl)
listed {x} (there {y} {l} o) = both (not (eqb y x)) (absent x l) (listed o)

pub found : (x : ℕ) (l : List ℕ) → absent x l ≡ false → OneOf x l
unfolding every
found x [] e = absurd (false≢true (sym e))
found x (y ∷ l) e =
    ⊎_elim
    (λ (t : eqb y x ≡ true). rw (eqb-true y x t) here)
    (λ (t : eqb y x ≡ false). there (found x l (rw t at e)))
    (if-known (eqb y x))

-- ── each handled opcode's row ──

-- the box knows it, handles it, and asks the least that the paper asks
row : {op least : ℕ} → Handled op least → ((rule_of op).known ≡ true) × ((rule_of op).handled ≡ true) × ((rule_of op).least ≡ least)
unfolding rule_of choose
row ccm = (refl, refl, refl)
row lbm = (refl, refl, refl)
row ais = (refl, refl, refl)
row lck = (refl, refl, refl)
row lmr = (refl, refl, refl)
row lmm = (refl, refl, refl)
row dmr = (refl, refl, refl)
row dmm = (refl, refl, refl)

module _ {op least : ℕ} (h : Handled op least) where
  pub row-known : (rule_of op).known ≡ true
  row-known = (row h).0

  pub row-handled : (rule_of op).handled ≡ true
  row-handled = (row h).1

  pub row-least : (rule_of op).least ≡ least
  row-least = (row h).2

-- the eight of the list are the eight rows
pub first : {x y : ℕ} {l : List ℕ} → OneOf x (y ∷ l) → (x ≡ y) ⊎ OneOf x l
first here = inl refl
first (there o) = inr o

pub none : {x : ℕ} → OneOf x [] → ⊥
unfolding every
none o = true≢false (listed o)

abbrev Row : ℕ → Type 0
Row op = (least : ℕ) × Handled op least

or : {x y : ℕ} {l : List ℕ} → Row y → (OneOf x l → Row x) → OneOf x (y ∷ l) → Row x
or r f here = r
or r f (there o) = f o

row_of : (op : ℕ) → OneOf op (1 ∷ 3 ∷ 33 ∷ 35 ∷ 42 ∷ 43 ∷ 46 ∷ 47 ∷ []) → Row op
row_of op =
    or (70, ccm) (or (4, lbm) (or (0, ais) (or (0, lck)
    (or (12, lmr) (or (12, lmm) (or (32, dmr) (or (32, dmm) (λ o. absurd (none o)))))))))

-- an opcode that the box handles has a row, and one without a row is not handled
pub handled-row : (op : ℕ) → (rule_of op).handled ≡ true → Row op
handled-row op h = row_of op (found op _ (not-true _ (sym (opcode_lists.handles op) ∙ h)))

pub no_row : (op : ℕ) → ((least : ℕ) → Handled op least → ⊥) → (rule_of op).handled ≡ false
no_row op n =
    ⊎_elim
    (λ (t : (rule_of op).handled ≡ true). let r = handled-row op t in absurd (n r.0 r.1))
    (λ (t : (rule_of op).handled ≡ false). t)
    (if-known (rule_of op).handled)

-- the columns of the multicast address, of requests, and of the loss peer
pub multicast_yes : (op : ℕ) → OneOf op (1 ∷ 3 ∷ 33 ∷ 35 ∷ 43 ∷ 47 ∷ []) → (rule_of op).multicast ≡ true
multicast_yes op o = opcode_lists.multicasts op ∙ ap not (listed o)

pub multicast_only : (op : ℕ) → (rule_of op).multicast ≡ true → OneOf op (1 ∷ 3 ∷ 33 ∷ 35 ∷ 43 ∷ 47 ∷ [])
multicast_only op e = found op _ (not-true _ (sym (opcode_lists.multicasts op) ∙ e))

pub request_yes : (op : ℕ) → OneOf op (3 ∷ 43 ∷ 47 ∷ []) → (rule_of op).request ≡ true
request_yes op o = opcode_lists.requests op ∙ ap not (listed o)

pub request_only : (op : ℕ) → (rule_of op).request ≡ true → OneOf op (3 ∷ 43 ∷ 47 ∷ [])
request_only op e = found op _ (not-true _ (sym (opcode_lists.requests op) ∙ e))

pub losspeer-yes : (op : ℕ) → op ≡ 42 → (rule_of op).losspeer ≡ true
losspeer-yes op e = opcode_lists.losspeers op ∙ ap not (listed (rw e here))

pub losspeer-only : (op : ℕ) → (rule_of op).losspeer ≡ true → op ≡ 42
losspeer-only op e =
    let one = found op _ (not-true _ (sym (opcode_lists.losspeers op) ∙ e)) in
    ⊎_elim (λ (h : op ≡ 42). h) (λ (q : OneOf op []). absurd (none q)) (first one)
