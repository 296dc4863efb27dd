-- `message_lmr::write_lmr` meets its contract: the reply with opcode 42, and two counts laid inside it.
use mathlib.Core.Path.{◌≡◌, ap, ◌∙◌}
use lib.ListN.{length}
use Rattle.base_laws.specs.Lists.{laid}
use Rattle.message_parts.specs.Messages.{count}
use Rattle.message_lmr.specs.Lmr.{lmr_octets}
use Rattle.message_lmr.proofs.Laid.{pieces, within}
use Rattle.message_reply.proofs.Laid.{over}
use Rattle.message_reply.proofs.Over.{cut_off_lem, no_room_lem, written}
use borrow.Author.Rules.{rules}
use Rattle.message_lmr.proofs.write_lmr.Goals as goal

-- our address has six octets

pub returns-then-request-lt-LMM_FIXED : goal.returns-then-request-lt-LMM_FIXED
unfolding lmr_octets over
returns-then-request-lt-LMM_FIXED c =
    let six : length c.args.own ≡ 6 = search rules in
    let s = c in
    let a = s.args in
    let both = cut_off_lem a.own a.request.now six 42 12 (pieces a.received a.sent) (within a.received a.sent) a.into.now
    c.if-request-lt-LMM_FIXED.true in
    record { value = both.0; into_after = both.1 }

pub returns-then-into-request : goal.returns-then-into-request
unfolding lmr_octets over
returns-then-into-request c =
    let six : length c.args.own ≡ 6 = search rules in
    let s = c in
    let a = s.args in
    let both = no_room_lem a.own a.request.now six 42 12 (pieces a.received a.sent) (within a.received a.sent) a.into.now
    c.if-request-lt-LMM_FIXED.false c.if-into-request.true in
    record { value = both.0; into_after = both.1 }

pub returns : goal.returns
unfolding lmr_octets over
returns c =
    let six : length c.args.own ≡ 6 = search rules in
    let second = c in
    let one = c in
    let reply = c in
    let test = c in
    let s = c in
    let a = s.args in
    let both = written a.own a.request.now six 42 12 (pieces a.received a.sent) (within a.received a.sent) a.into.now
    test.if-request-lt-LMM_FIXED.false test.if-into-request.false
    reply.write_reply.ensures
    (second.write_big-2.ensures ∙ ap (laid 26 (count a.sent)) one.write_big.ensures) in
    record { value = both.0; into_after = both.1 }
