-- `frame_tlvs::walk` meets its contract. The loop's invariant: the walk from here stops where the walk from the start does. The measure is
-- what is left of the PDU.
use native.Mathlib.Omega.{arith}
use mathlib.Core.Path.{ap, sym, ◌∙◌}
use Prim.Native.Nat.{ℕ, ◌+◌, ◌-◌}
use Rattle.frame_tlvs.specs.declared.Place.TheVariants.{Found}
use Rattle.frame_tlvs.specs.Tlvs.{walk_from}
use Rattle.frame_tlvs.proofs.Steps.{past, ended, cut, found, next}
use Rattle.frame_tlvs.proofs.walk.Goals as goal

pub read_big-n-requires : goal.read_big-n-requires
read_big-n-requires c = (omega arith, omega arith)

pub loop-at-preserved : goal.loop-at-preserved
loop-at-preserved c = let l = c in
    let a = c.args in
    ap (λ (k : ℕ). walk_from a.kind (l.loop-at.at + 3 + k) a.pdu.now)
    c.read_big-n.ensures.is
    ∙ sym (next a.kind l.loop-at.at a.pdu.now (omega arith) c.if-t-eq0.false
    (omega (arith, c.read_big-n.ensures.is)) c.if-t-kind.false) ∙ l.loop-at.invariant

pub returns-then-pdu-at : goal.returns-then-pdu-at
returns-then-pdu-at c = let l = c in
    let a = c.args in
    (sym (past a.kind l.loop-at.at a.pdu.now c.if-pdu-at.true) ∙ l.loop-at.invariant, tt)

pub returns-then-t-eq0 : goal.returns-then-t-eq0
returns-then-t-eq0 c = let l = c in
    let a = c.args in
    (sym (ended a.kind l.loop-at.at a.pdu.now (omega arith) c.if-t-eq0.true) ∙ l.loop-at.invariant, tt)

pub returns-then-pdu-at-lt3 : goal.returns-then-pdu-at-lt3
returns-then-pdu-at-lt3 c = let l = c in
    let a = c.args in
    (sym (cut a.kind l.loop-at.at a.pdu.now (omega arith) c.if-t-eq0.false (omega arith)) ∙ l.loop-at.invariant, tt)

pub returns-then-pdu-at-2 : goal.returns-then-pdu-at-2
returns-then-pdu-at-2 c = let l = c in
    let a = c.args in (
      sym (cut a.kind l.loop-at.at a.pdu.now (omega arith) c.if-t-eq0.false
          (omega (arith, c.read_big-n.ensures.is))) ∙ l.loop-at.invariant,
      tt,
    )

pub returns-then-t-kind : goal.returns-then-t-kind
returns-then-t-kind c = let l = c in
    let a = c.args in
    let n = c.read_big-n in (
      ap (λ (k : ℕ). Found (l.loop-at.at + 3) k) n.ensures.is
          ∙ sym (found a.kind l.loop-at.at a.pdu.now (omega arith) c.if-t-eq0.false
          (omega (arith, n.ensures.is)) c.if-t-kind.true) ∙ l.loop-at.invariant,
      omega arith,
    )
