-- `stored_replies::recount` meets its contract. The loop's invariant: the records of the replies so far stand in the buffer, and what the
-- rest gives from the session now is still to come.
use native.Mathlib.Omega.{arith}
use mathlib.Core.Path.{sym, ap, ◌∙◌}
use Rattle.std.specs.Iterator.Adapters.{enumerate_source, enumerate_count}
use Rattle.stored_replies.specs.Recount.{recount_told}
use Rattle.stored_replies.proofs.Told.{five}
use Rattle.stored_replies.proofs.Turns.{ends-not_well, ends-no-room, at-start, at-end, turn_halts, turn_kept, turn_room}
use Rattle.stored_replies.proofs.Turns.{turn_goes}
use Rattle.stored_replies.proofs.recount.Goals as goal

pub returns-then-not-well_formed : goal.returns-then-not-well_formed
unfolding recount_told
returns-then-not-well_formed c = let d = c in
    let a = c.args in
    ends-not_well a.session a.from.now a.into.now (sym d.well_formed-2.ensures ∙ d.if-not-well_formed.true)

pub returns-then-into-count : goal.returns-then-into-count
unfolding recount_told
returns-then-into-count c = let d = c in
    let a = c.args in
    ends-no-room a.session a.from.now a.into.now
    (sym c.well_formed-2.ensures ∙ d.if-not-well_formed.false) (omega arith)

pub loop-i-init : goal.loop-i-init
loop-i-init c =
    let a = c.args in
    let source = ap enumerate_source c.into_iter-i-iterator.ensures.into_iter_gives ∙ c.enumerate-i-items.ensures.source in
    let count = ap enumerate_count c.into_iter-i-iterator.ensures.into_iter_gives ∙ c.enumerate-i-items.ensures.count in (
      rw (source, c.chunks_exact.ensures.rest, count) (at-start a.session a.from.now a.into.now),
      rw source c.chunks_exact.ensures.size,
      omega arith,
      sym c.well_formed-2.ensures ∙ c.if-not-well_formed.false,
    )

pub returns-then-next-ne0 : goal.returns-then-next-ne0
unfolding recount_told
returns-then-next-ne0 c =
    let l = c.loop-i in
    let v = l.invariant in
    let n = c.in-Some.ensures.steps in
    let cut = n.0.1 in
    let t = rw (← n.1) at v.0 in
    let e = turn_halts t v.3 v.2 _ _ v.1 cut.0 cut.1 c.answer_reply-next.ensures c.if-next-ne0.true in
    rw (five c.args.session c.args.from.now c.args.into.now e c.if-next-ne0.true) at e

pub put_record-requires : goal.put_record-requires
put_record-requires c =
    let v = c.loop-i.invariant in
    let n = c.in-Some.ensures.steps in
    let cut = n.0.1 in
    let t = rw (← n.1) at v.0 in (
      turn_room t v.3 v.2 _ _ v.1 cut.0 cut.1 c.answer_reply-next.ensures,
      turn_kept t v.3 v.2 _ _ v.1 cut.0 cut.1 c.answer_reply-next.ensures c.if-next-ne0.false,
    )

pub loop-i-preserved : goal.loop-i-preserved
loop-i-preserved c =
    let v = c.loop-i.invariant in
    let n = c.in-Some.ensures.steps in
    let cut = n.0.1 in
    let t = rw (← n.1) at v.0 in (
      rw (n.2, ← n.1)
          (turn_goes t v.3 v.2 _ _ v.1 cut.0 cut.1 c.answer_reply-next.ensures c.if-next-ne0.false c.put_record.ensures),
      n.0.0 ∙ v.1,
      v.2,
      v.3,
    )

pub returns : goal.returns
unfolding recount_told
returns c =
    let l = c.loop-i in
    let v = l.invariant in
    let none = c.in-None.ensures.steps.0.1 in
    at-end v.0 v.3 v.2 v.1 none.0
