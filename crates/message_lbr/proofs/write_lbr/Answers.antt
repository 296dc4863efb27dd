-- `message_lbr::write_lbr` meets its contract: the reply with opcode 2.
use mathlib.Core.Path.{◌≡◌, refl}
use mathlib.Core.List.{[]}
use lib.ListN.{length}
use Rattle.message_reply.proofs.Laid.{over, Within}
use Rattle.message_reply.proofs.Over.{cut_off_lem, no_room_lem, written}
use borrow.Author.Rules.{rules}
use Rattle.message_lbr.proofs.write_lbr.Goals as goal

-- our address has six octets

pub returns-then-request-lt-LBM_FIXED : goal.returns-then-request-lt-LBM_FIXED
unfolding over Within
returns-then-request-lt-LBM_FIXED c =
    let six : length c.args.own ≡ 6 = search rules in
    let s = c in
    let a = s.args in
    let both = cut_off_lem a.own a.request.now six 2 4 [] tt a.into.now c.if-request-lt-LBM_FIXED.true in
    record { value = both.0; into_after = both.1 }

pub returns-then-into-request : goal.returns-then-into-request
unfolding over Within
returns-then-into-request c =
    let six : length c.args.own ≡ 6 = search rules in
    let s = c in
    let a = s.args in
    let both = no_room_lem a.own a.request.now six 2 4 [] tt a.into.now c.if-request-lt-LBM_FIXED.false c.if-into-request.true in
    record { value = both.0; into_after = both.1 }

pub returns : goal.returns
unfolding over Within
returns c =
    let six : length c.args.own ≡ 6 = search rules in
    let reply = c in
    let test = c in
    let s = c in
    let a = s.args in
    let both = written a.own a.request.now six 2 4 [] tt a.into.now test.if-request-lt-LBM_FIXED.false test.if-into-request.false
    reply.write_reply.ensures refl in
    record { value = both.0; into_after = both.1 }
