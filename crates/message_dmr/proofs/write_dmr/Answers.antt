-- `message_dmr::write_dmr` meets its contract: the reply with opcode 46, and two stamps laid inside it.
use mathlib.Core.Path.{◌≡◌, ap, ◌∙◌}
use lib.ListN.{length}
use Rattle.base_laws.specs.Lists.{laid}
use Rattle.message_parts.specs.Messages.{stamp_octets}
use Rattle.message_dmr.specs.Dmr.{dmr_octets}
use Rattle.message_dmr.proofs.Laid.{pieces, within}
use Rattle.message_reply.proofs.Laid.{over}
use Rattle.message_reply.proofs.Over.{cut_off_lem, no_room_lem, written}
use borrow.Author.Rules.{rules}
use Rattle.message_dmr.proofs.write_dmr.Goals as goal

-- our address has six octets

pub returns-then-request-lt-DMM_FIXED : goal.returns-then-request-lt-DMM_FIXED
unfolding dmr_octets over
returns-then-request-lt-DMM_FIXED c =
    let six : length c.args.own ≡ 6 = search rules in
    let s = c in
    let a = s.args in
    let both = cut_off_lem a.own a.request.now six 46 32 (pieces a.receive a.transmit) (within a.receive a.transmit)
    a.into.now
    c.if-request-lt-DMM_FIXED.true in
    record { value = both.0; into_after = both.1 }

pub returns-then-into-request : goal.returns-then-into-request
unfolding dmr_octets over
returns-then-into-request c =
    let six : length c.args.own ≡ 6 = search rules in
    let s = c in
    let a = s.args in
    let both = no_room_lem a.own a.request.now six 46 32 (pieces a.receive a.transmit) (within a.receive a.transmit)
    a.into.now
    c.if-request-lt-DMM_FIXED.false c.if-into-request.true in
    record { value = both.0; into_after = both.1 }

pub returns : goal.returns
unfolding dmr_octets over
returns c =
    let six : length c.args.own ≡ 6 = search rules in
    let second = c in
    let one = c in
    let reply = c in
    let test = c in
    let s = c in
    let a = s.args in
    let both = written a.own a.request.now six 46 32 (pieces a.receive a.transmit) (within a.receive a.transmit)
    a.into.now test.if-request-lt-DMM_FIXED.false test.if-into-request.false
    reply.write_reply.ensures
    (second.write_stamp-2.ensures ∙ ap (laid 34 (stamp_octets a.transmit)) one.write_stamp.ensures) in
    record { value = both.0; into_after = both.1 }
