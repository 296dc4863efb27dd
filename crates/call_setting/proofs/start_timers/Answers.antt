-- `call_setting::start_timers` meets its contract. The invariant: of the first i timers the used ones are the hold time, the others as they
-- were.
use mathlib.Core.Path.{refl, ◌∙◌}
use native.Mathlib.Omega.{arith}
use lib.Seq.{set-get_or}
use Rattle.call_setting.proofs.Least.{unseen, next-used, next-unused, seen}
use Rattle.call_setting.proofs.start_timers.Goals as goal
use Rattle.call_setting.proofs.start_timers.Goals.{then-i-used, else-i-used}

pub loop-i-init : goal.loop-i-init
loop-i-init c = (refl, unseen c.args.hold c.args.count c.args.timers.now)

pub loop-i-preserved : goal.loop-i-preserved
loop-i-preserved c =
    let l = c.loop-i in
    let a = c.args in (
      l.invariant.0,
      elim c.if-i-used.branch [
        | then-i-used w ↦ w.timers-is ∙ next-used a.hold l.i a.count a.timers.now l.timers l.invariant.1 w.if-i-used.true
        | else-i-used w ↦ w.timers-is ∙ set-get_or l.timers l.i 0
            ∙ next-unused a.hold l.i a.count a.timers.now l.timers l.invariant.1 w.if-i-used.false
      ],
    )

pub returns : goal.returns
returns c = let l = c.loop-i in seen c.args.hold l.i c.args.count c.args.timers.now l.timers l.invariant.1 (omega arith)
