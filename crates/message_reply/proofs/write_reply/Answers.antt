-- `message_reply::write_reply` meets its contract: the buffer stays, or the request is laid, and three pieces inside it.
use mathlib.Core.Path.{◌≡◌, sym, ◌∙◌}
use native.Mathlib.Omega.{arith}
use lib.ListN.{length}
use Rattle.message_reply.proofs.Laid.{reply-laid}
use Rattle.message_reply.proofs.Room.{no-opcode, no_room_lem, into_room}
use borrow.Author.Rules.{rules}
use Rattle.message_reply.proofs.write_reply.Goals as goal

-- our address has six octets

pub returns-then-request-lt-PDU_HEAD_END : goal.returns-then-request-lt-PDU_HEAD_END
returns-then-request-lt-PDU_HEAD_END c =
    let a = c.args in
    no-opcode a.own a.opcode a.request.now a.into.now c.if-request-lt-PDU_HEAD_END.true

pub returns-then-into-request : goal.returns-then-into-request
returns-then-into-request c =
    let a = c.args in
    no_room_lem a.own a.opcode a.request.now a.into.now c.if-request-lt-PDU_HEAD_END.false c.if-into-request.true

pub returns : goal.returns
returns c =
    let six : length c.args.own ≡ 6 = search rules in
    let source = c in
    let destination = c in
    let whole = c in
    let test = c in
    let s = c in
    let a = s.args in
    reply-laid a.own a.request.now six a.opcode (omega arith) a.into.now (omega arith)
    whole.copy_request.ensures
    destination.copy_octets.ensures
    source.copy_octets-2.ensures
    ∙ sym (into_room a.own a.opcode a.request.now a.into.now test.if-request-lt-PDU_HEAD_END.false test.if-into-request.false)
