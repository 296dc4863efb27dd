-- The fixed part of a good frame is there, and the opcode that the code found decides which fields are read. Assumes nothing.
use Prim.Native.Nat.{ℕ, ◌+◌, ◌<◌}
use mathlib.Core.Path.{◌≡◌, sym, ap, ◌∙◌}
use mathlib.Core.Bool.{Bool, true, false, ◌&&◌, ◌||◌, not, cond}
use mathlib.Core.List.{List}
use mathlib.Core.Logic.{⊎_elim}
use native.Mathlib.Omega.{arith}
use lib.Dec.{eqb}
use lib.ListN.{length}
use borrow.Author.Tests.{eqb-true, eq-eqb, ne_eqb}
use Rattle.base_laws.proofs.Tests.{either_true}
use Rattle.frame_opcodes.specs.Opcodes.{rule_of}
use Rattle.frame_head.specs.Head.{pdu_of, opcode_of}
use Rattle.frame_message.specs.Told.{good_opcode}
use Rattle.frame_message.proofs.Goods.{good_frames}
use Rattle.frame_message.proofs.Numbers.{only}

-- a frame that is a message of opcode k has the octets that the opcode's offset tells
there : (f : List ℕ) (k : ℕ) → good_opcode f ≡ k → 0 < k → 4 + (rule_of k).least < length (pdu_of f)
there f k e h =
    let m = only f (λ z. let y : k ≡ 0 = sym e ∙ z in omega arith) in
    let o : opcode_of (pdu_of f) ≡ k = sym m.1 ∙ e in
    omega (arith, good_frames.fixed f m.0, ap (λ (op : ℕ). (rule_of op).least) o)

-- one of two, where the code asks for neither
neither : (a b t : Bool) → (not a && not b) ≡ t → (a || b) ≡ not t
neither true b t e = ap not e
neither false true t e = ap not e
neither false false t e = ap not e

module _ (f : List ℕ) {p : List ℕ} {r : ℕ} (pdu : p ≡ pdu_of f) (opcode : r ≡ good_opcode f) where
  -- as the code finds it: the PDU p, the opcode r
  pub one : (k n : ℕ) → r ≡ k → 0 < k → (rule_of k).least ≡ n → 4 + n < length p
  one k n e h l = omega (arith, l, ap length pdu, there f k (sym opcode ∙ e) h)

  -- of a message whose opcode is one of two
  pub two : (a b n : ℕ) → (not (eqb r a) && not (eqb r b)) ≡ false → 0 < a → 0 < b → (rule_of a).least ≡ n → (rule_of b).least ≡ n
      → 4 + n < length p
  two a b n t ha hb la lb =
      ⊎_elim
      (λ (e : eqb r a ≡ true). one a n (eqb-true r a e) ha la)
      (λ (e : eqb r b ≡ true). one b n (eqb-true r b e) hb lb)
      ((either_true (eqb r a) (eqb r b)).0 (neither (eqb r a) (eqb r b) false t))

  -- what a definition gives by the opcode is what the code gives by r
  module _ {A : Type 0} (x y : A) where
    pub is : (k : ℕ) → r ≡ k → cond (eqb (good_opcode f) k) x y ≡ x
    is k e = rw (eq-eqb (good_opcode f) k (sym opcode ∙ e))

    pub is_not : (k : ℕ) → (r ≡ k → ⊥) → cond (eqb (good_opcode f) k) x y ≡ y
    is_not k n = rw (ne_eqb (good_opcode f) k (λ e. n (opcode ∙ e)))

    pub either : (a b : ℕ) (t : Bool) → (not (eqb r a) && not (eqb r b)) ≡ t
        → cond (eqb (good_opcode f) a || eqb (good_opcode f) b) x y ≡ cond (not t) x y
    either a b t e = ap (λ (b : Bool). cond b x y) (ap (λ (o : ℕ). eqb o a || eqb o b) (sym opcode) ∙ neither (eqb r a) (eqb r b) t e)
