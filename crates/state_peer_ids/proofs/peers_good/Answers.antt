-- `state_peer_ids::peers_good` meets its contract: the used slots tested in front, the others behind them.
use mathlib.Core.Path.{sym, ◌∙◌}
use native.Mathlib.Omega.{arith}
use lib.ListN.{length}
use borrow.Author.Tests.{le-leb, lt-leb}
use Rattle.base_laws.proofs.Tests.{passes, stops}
use Rattle.state_peer_ids.specs.Ids.{peers_good}
use Rattle.state_peer_ids.proofs.peers_good.Goals as goal

pub returns-then-ids-used : goal.returns-then-ids-used
unfolding peers_good
returns-then-ids-used c = let a = c.args in
    stops _ _ (lt-leb a.count (length a.ids.now) (omega (arith, c.if-ids-used.true)))

pub returns-then-not-used_good : goal.returns-then-not-used_good
unfolding peers_good
returns-then-not-used_good c = let a = c.args in
    passes (le-leb a.count (length a.ids.now) c.if-ids-used.false)
    (stops _ _ (sym c.used_good.ensures ∙ c.if-not-used_good.true))

pub returns : goal.returns
unfolding peers_good
returns c = let a = c.args in
    passes (le-leb a.count (length a.ids.now) c.if-ids-used.false)
    (passes (sym c.used_good.ensures ∙ c.if-not-used_good.false)
    c.zero_from.ensures)
